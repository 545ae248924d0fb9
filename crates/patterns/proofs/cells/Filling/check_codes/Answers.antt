-- The cell at fault has a record, as every cell has.
use Rattle.std.proofs.Common.{ℕ, ◌<◌, Option, None, Some, IsSome, rules, subst}
use Rattle.faults.specs.Places.{Searched}
use Rattle.patterns.proofs.cells.Filling.check_codes.Goals as goal

-- a search finds what there is
found : (Fault : ℕ → Type 0) (r : Option ℕ) → Searched Fault r → (i : ℕ) → Fault i → IsSome r
found Fault None none i h = absurd (none i h)
found Fault (Some j) first i h = search rules

pub unwrap-place-requires : goal.unwrap-place-requires
unwrap-place-requires c =
    let cells = c.requires in
    let bad = c.in-Some.ensures.0.0 in
    let (i, of, e) = cells.codes c.in-Some.position (subst (λ n. c.in-Some.position < n) cells.count bad) in
    found _ _ c.record_of_cell.ensures i of
