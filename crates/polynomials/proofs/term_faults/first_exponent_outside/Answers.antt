-- Each turn reads one term more.
use Rattle.std.proofs.Common.{subst, inl, inr, arith}
use Rattle.std.proofs.lemmas.Bool.{cases_eq}
use Rattle.polynomials.specs.Terms.{ExponentFault}
use Rattle.polynomials.proofs.term_faults.first_exponent_outside.Goals as goal

pub loop-place-preserved : goal.loop-place-preserved
loop-place-preserved c j l f = elim (cases_eq j c.loop-place.place) [
  | inl e ↦ (subst (ExponentFault c.args.variables c.args.terms.now) e f).1 c.if-not-is_admitted.ensures
  | inr n ↦ c.loop-place.invariant j (omega arith) f
]

pub returns : goal.returns
returns c j f = c.loop-place.invariant j (omega (arith, f.0)) f
