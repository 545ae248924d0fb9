-- The codes so far are written.
use Rattle.std.proofs.Common.{◌≡◌, ℕ, ◌<◌, get_or}
use Rattle.elimination.proofs.remaining.write_negatives.Given as goal

abbrev pub invariant-loop-j : goal.invariant-loop-j
invariant-loop-j g l = (j : ℕ) → j < l.j → get_or l.codes j 0 ≡ (g.F.Field.arithmetic l.field).negative (get_or l.added j 0)
