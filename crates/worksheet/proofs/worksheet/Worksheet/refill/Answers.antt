-- The grounds are met in their order; then the code is that of the continuation.
use Rattle.std.proofs.Common.{◌≡◌, ◌<◌, length, sym, refl, ◌∙◌, subst, arith}
use Rattle.monomials.specs.Monomials.{mono}
use Rattle.worksheet.specs.Sheets.{FitsField}
use Rattle.worksheet.specs.Questions.{stairs_in, RefillAdmitted}
use Rattle.worksheet.specs.Views.{sheet}
use Rattle.worksheet.proofs.Refilled.{refilled}
use Rattle.worksheet.proofs.worksheet.Worksheet.refill.Goals as goal

pub returns-then-not-is_admitted : goal.returns-then-not-is_admitted
returns-then-not-is_admitted g c =
    let fits : FitsField (g.F.Field.arithmetic c.args.field.now) (sheet c.args.self.now) = omega arith in
    (c.in_default.ensures, fits, c.if-not-is_done.ensures.0 refl, c.if-not-is_admitted.ensures, refl)

pub returns-then-codes-stairs : goal.returns-then-codes-stairs
returns-then-codes-stairs g c =
    let fits : FitsField (g.F.Field.arithmetic c.args.field.now) (sheet c.args.self.now) = omega arith in
    (c.in_default.ensures, fits, c.if-not-is_done.ensures.0 refl, c.if-not-is_admitted.ensures, λ e. c.if-codes-stairs.true (e ∙ sym c.stairs.ensures.is))

pub returns : goal.returns
returns g c =
    let A = g.F.Field.arithmetic c.args.field.now in
    let s = sheet c.args.self.now in
    let a = mono c.args.monomial.now.exponents in
    let codes = c.args.codes.now in
    let fits : FitsField A s = omega arith in
    let many : length codes ≡ stairs_in s = omega (arith, c.stairs.ensures.is) in
    let admitted : RefillAdmitted A codes a s =
    record { below = c.in_default.ensures; fits = fits; done = c.if-not-is_done.ensures.0 refl; exponents = c.if-not-is_admitted.ensures; one_each = many } in (
      admitted,
      subst (λ q. c.refill_code.result < q) fits c.refill_code.ensures.below,
      refilled A codes a s admitted c.judged.result.now c.judged.ensures c.refill_code.result c.refill_code.ensures.continues,
    )
