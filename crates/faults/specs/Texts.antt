-- The line that a refusal is printed as.
use Rattle.std.specs.Prelude.{ℕ, List, ◌++◌, codes, decimal}
use Rattle.faults.specs.declared.refusal.Refusal.{Refusal}

-- `refused G at P`, both numbers in decimal
abbrev pub refusal_text : Refusal → List ℕ
refusal_text r = codes "refused " ++ (decimal r.ground ++ (codes " at " ++ decimal r.place))
