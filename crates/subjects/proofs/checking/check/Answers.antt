-- The grounds are met in their order; then every position is looked at.
use Rattle.std.proofs.Common.{◌∙◌, subst, arith}
use Rattle.faults.specs.Places.{FirstAt, NoneAt}
use Rattle.polynomials.specs.Terms.{ExponentFault}
use Rattle.subjects.proofs.checking.check.Goals as goal

pub returns-in-Some-first_exponent_outside : goal.returns-in-Some-first_exponent_outside
returns-in-Some-first_exponent_outside g c =
    let i = c.in-Some-first_exponent_outside.term in
    (c.in_default.ensures, subst (λ m. FirstAt (ExponentFault m c.args.terms.now) i) c.variables.ensures c.in-Some-first_exponent_outside.ensures)

pub returns-then-polynomial_image-ne0 : goal.returns-then-polynomial_image-ne0
returns-then-polynomial_image-ne0 g c = (
  record { codes = c.in_default.ensures; exponents = subst (λ m. NoneAt (ExponentFault m c.args.terms.now)) c.variables.ensures c.in_default-first_exponent_outside.ensures },
  record { within = omega arith; fails = λ z. c.if-polynomial_image-ne0.true (c.polynomial_image.ensures ∙ z) },
)

pub returns : goal.returns
returns g c = (
  record { codes = c.in_default.ensures; exponents = subst (λ m. NoneAt (ExponentFault m c.args.terms.now)) c.variables.ensures c.in_default-first_exponent_outside.ensures },
  λ k h. c.loop-position.invariant k (omega arith),
)
