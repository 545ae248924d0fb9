-- The product of the periods so far, none of them at fault.
use Rattle.std.proofs.Common.{◌≡◌, ℕ, ◌<◌, ◌≤◌, take}
use Rattle.polynomials.specs.Arrays.{cells_of}
use Rattle.subjects.specs.ArrayGrounds.{PeriodFault}
use Rattle.subjects.proofs.periodic.count_cells.Given as goal

abbrev pub invariant-loop-axis : goal.invariant-loop-axis
invariant-loop-axis l =
    (0 < l.width) × (l.width ≤ 64) × (l.width ≡ cells_of (take l.axis l.periods)) × ((j : ℕ) → j < l.axis → PeriodFault l.periods j → ⊥)
