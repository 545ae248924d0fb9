-- The code at coordinates is the image at the first position.
use Rattle.std.proofs.Common.{◌∙◌}
use Rattle.monomials.specs.Monomials.{mono}
use Rattle.polynomials.proofs.Arrays.{image_first, annihilators_valid}
use Rattle.subjects.proofs.periodic.PeriodicArray.code_at.Goals as goal

pub returns : goal.returns
returns g c =
    let s = c.args.self.now in
    let A = g.F.Field.arithmetic c.args.field.now in
    record {
      value = c.image.ensures ∙ image_first s.periods.now s.cells.now s.few s.inhabited A (mono c.args.coordinates.now.exponents);
      valid = annihilators_valid s.periods.now s.cells.now s.few s.inhabited;
    }
