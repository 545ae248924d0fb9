-- The value is the image at the point.
use Rattle.std.proofs.Common.{◌∙◌}
use Rattle.polynomials.specs.Terms.{poly}
use Rattle.polynomials.proofs.Points.{image_value, image_past, values_evaluate, annihilators_vanish}
use Rattle.subjects.proofs.points.PointSet.value_at.Goals as goal

pub returns : goal.returns
returns g c =
    let s = c.args.self.now in
    let A = g.F.Field.arithmetic c.args.field.now in
    let L = (g.met.F.Field.laws c.args.field.now).ring in
    let p = poly c.args.terms.now in
    let k = c.args.point in
    record {
      value = λ h. c.polynomial_image.ensures ∙ image_value s.variables s.points s.coordinates.now A p k h;
      past = λ h. c.polynomial_image.ensures ∙ image_past s.variables s.points s.coordinates.now A L p k h;
      evaluation = values_evaluate s.variables s.points s.coordinates.now s.few;
      vanishing = annihilators_vanish s.variables s.points s.coordinates.now;
    }
