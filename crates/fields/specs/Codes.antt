-- Lists of codes that are lent under a field.
use Rattle.std.specs.Prelude.{ℕ, ◌≤◌, List}
use Rattle.faults.specs.Places.{Faulty}

-- the code at a place is not below the order
abbrev pub CodeFault : ℕ → List ℕ → ℕ → Type 0
CodeFault order codes = Faulty 0 (λ code. order ≤ code) codes
