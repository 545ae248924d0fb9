-- The codes that clear the image, with negative sign, remain.
use mathlib.Core.Path.{subst⁻¹}
use Rattle.std.proofs.Common.{◌<◌, get_or}
use Rattle.polynomials.specs.Terms.{poly}
use Rattle.elimination.proofs.Remainders.{remainder_of}
use Rattle.elimination.proofs.remaining.remainder_codes.Goals as goal

pub returns : goal.returns
returns g c =
    let S = g.S.Subject.meaning c.args.subject.now in
    let A = g.F.Field.arithmetic c.args.field.now in
    record {
      below = λ j h. subst⁻¹ (λ x. x < A.order) (c.write_negatives.ensures j h) ((g.met.F.Field.laws c.args.field.now).ring.negative_below (get_or c.clear-added.result j 0));
      remains = remainder_of S A c.args.lines.now (poly c.args.terms.now) c.width.result
          c.polynomial_images-image.result c.clear-added.new.image c.clear-added.result c.write_negatives.new.codes
          c.width.ensures (g.S.Subject.laws c.args.subject.now).narrow c.polynomial_images-image.ensures c.clear-added.ensures.cleared c.write_negatives.ensures;
    }
