-- No monomial so far is outside.
use Rattle.std.proofs.Common.{ℕ, ◌<◌}
use Rattle.polynomials.specs.Terms.{ExponentFault}
use Rattle.polynomials.proofs.term_faults.first_exponent_outside.Given as goal

abbrev pub invariant-loop-place : goal.invariant-loop-place
invariant-loop-place l = (j : ℕ) → j < l.place → ExponentFault l.variables l.terms j → ⊥
