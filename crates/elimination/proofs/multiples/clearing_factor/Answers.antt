-- The product of the negative and the inverse clears the code.
use Rattle.std.proofs.Common.{◌≡◌, ◌<◌, ap, ◌∙◌}
use mathlib.Core.Path.{subst⁻¹}
use Rattle.elimination.proofs.Factors.{negative_inverse, not_zero}
use Rattle.elimination.proofs.multiples.clearing_factor.Goals as goal

pub returns : goal.returns
returns g c =
    let A = g.F.Field.arithmetic c.args.field.now in
    let L = (g.met.F.Field.laws c.args.field.now).ring in
    let b = c.in_ok-inverse.inverse in
    let x = A.product (A.negative c.args.code) b in
    let e : c.product.result ≡ x = c.product.ensures ∙ ap (λ y. A.product y b) c.negative.ensures in (
      not_zero A L c.args.at_pivot b c.in_ok-inverse.ensures.0,
      subst⁻¹ (λ y. y < A.order) e (L.product_below (A.negative c.args.code) b),
      subst⁻¹ (λ y. A.sum c.args.code (A.product y c.args.at_pivot) ≡ 0) e (negative_inverse A L c.args.code c.args.at_pivot b c.in_ok-inverse.ensures.0),
    )
