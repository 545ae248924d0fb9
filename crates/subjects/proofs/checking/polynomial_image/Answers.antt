-- Each turn moves one term from what is left to the sum.
use Rattle.std.proofs.Common.{◌+◌, ◌<◌, get_or, drop, ap, ◌∙◌}
use mathlib.Core.Path.{subst⁻¹}
use Rattle.fields.proofs.Rings as rings
use Rattle.monomials.specs.Monomials.{Mono}
use Rattle.polynomials.specs.Polynomials.{applied}
use Rattle.polynomials.specs.Terms.{poly, blank, monomial_of}
use Rattle.polynomials.proofs.Polynomials.{applied_below}
use Rattle.polynomials.proofs.Terms.{turn, all_summed}
use Rattle.subjects.proofs.checking.polynomial_image.Goals as goal

pub loop-term-init : goal.loop-term-init
loop-term-init g c =
    let A = g.F.Field.arithmetic c.args.field.now in
    let L = (g.met.F.Field.laws c.args.field.now).ring in
    (rings.some_code A L, rings.zero_plus A L (applied_below A L (λ a. (g.S.Subject.meaning c.args.subject.now).image A a c.args.position) (poly c.args.terms.now)))

pub loop-term-preserved : goal.loop-term-preserved
loop-term-preserved g c =
    let A = g.F.Field.arithmetic c.args.field.now in
    let L = (g.met.F.Field.laws c.args.field.now).ring in
    let f = λ (a : Mono). (g.S.Subject.meaning c.args.subject.now).image A a c.args.position in
    let i = c.loop-term.term-index in
    let ts = c.args.terms.now in
    let sum = c.loop-term.sum in (
      subst⁻¹ (λ x. x < A.order) c.with_term-sum.ensures (L.sum_below sum (A.product (get_or ts i blank).code (f (monomial_of (get_or ts i blank))))),
      ap (λ x. A.sum x (applied A f (poly (drop (i + 1) ts)))) c.with_term-sum.ensures ∙ turn A L f ts i blank sum c.loop-term-test.true ∙ c.loop-term.invariant.1,
    )

pub returns : goal.returns
returns g c =
    let A = g.F.Field.arithmetic c.args.field.now in
    let L = (g.met.F.Field.laws c.args.field.now).ring in
    let f = λ (a : Mono). (g.S.Subject.meaning c.args.subject.now).image A a c.args.position in
    all_summed A L f c.args.terms.now c.loop-term.term-index c.loop-term.sum c.loop-term-test.false c.loop-term.invariant.0 c.loop-term.invariant.1
