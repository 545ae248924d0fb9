-- No code so far is outside.
use Rattle.std.proofs.Common.{ℕ, ◌<◌}
use Rattle.polynomials.specs.Terms.{TermCodeFault}
use Rattle.polynomials.proofs.term_faults.first_code_outside.Given as goal

abbrev pub invariant-loop-i : goal.invariant-loop-i
invariant-loop-i g l = (j : ℕ) → j < l.i → TermCodeFault (g.F.Field.arithmetic l.field).order l.terms j → ⊥
