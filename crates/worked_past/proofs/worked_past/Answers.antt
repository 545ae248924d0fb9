-- Each call's contract is its place in the past.
use Rattle.std.proofs.Common.{[], ◌∷◌, replicate, refl}
use Rattle.fields.specs.Inverses.{field_laws}
use Rattle.monomials.specs.Monomials.{mono}
use Rattle.monomials.specs.RulesLemmas.{lexicographic_laws}
use Rattle.polynomials.proofs.Arrays.{array_laws}
use Rattle.worksheet.specs.Views.{sheet}
use Rattle.worked_past.proofs.Pasts.{worked_by}
use Rattle.worked_past.proofs.worked_past.Goals as goal

pub returns : goal.returns
returns c =
    let array = c.unit-array.result in
    let field = c.in-Ok.field in
    worked_by array.periods.now array.cells.now field.modulus c.unit-array.ensures.0 c.unit-array.ensures.1 c.in-Ok.ensures.modulus.0
    (record { subject = array_laws array.periods.now array.cells.now array.few array.some array.narrow; field = field_laws field.modulus field.listed; order = lexicographic_laws })
    (replicate 3 c.unused-lines.result) refl
    (record {
      stepped = c.step.result;
      ran = c.run.result;
      number = 0;
      place = c.unused-line.result;
      says = c.read.result;
      place_after = c.read.new.place;
      terms = c.new-2.result ∷ [];
      lent_codes = 0 ∷ [];
      left = c.remainder.result;
      codes_after = c.remainder.new.codes;
      codes = 1 ∷ [];
      at = mono c.one.result.exponents;
      refilled = c.refill.result;
      scored = c.score.result;
    })
    (sheet c.open-sheet.result) (sheet c.step.new.self) (sheet c.run.new.self) c.open-sheet.ensures c.step.ensures c.run.ensures c.read.ensures
    c.remainder.ensures c.refill.ensures c.score.ensures
