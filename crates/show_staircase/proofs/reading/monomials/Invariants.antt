-- The lines so far list the monomials so far, and are followed by the score where it was read; the lines that are left are yet to come.
use Rattle.std.proofs.Common.{ℕ, List, vec_items}
use Rattle.show_staircase.proofs.Lines.{Left, Sofar}
use Rattle.show_staircase.proofs.reading.monomials.Given as goal

abbrev pub invariant-loop-line : goal.invariant-loop-line
invariant-loop-line l = (texts : List (List ℕ)) → Left l.fn.below texts → Sofar texts l.line-iterator (vec_items l.listed) l.scored
