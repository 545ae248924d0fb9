-- The grounds are met in their order; then the codes are those of the remainder.
use Rattle.std.proofs.Common.{◌≡◌, ◌<◌, length, get_or, sym, refl, ◌∙◌, subst, arith}
use mathlib.Core.Path.{subst⁻¹}
use Rattle.faults.specs.Places.{FirstAt, NoneAt}
use Rattle.polynomials.specs.Terms.{ExponentFault}
use Rattle.worksheet.specs.Questions.{stairs_in, RemainderAdmitted}
use Rattle.worksheet.specs.Views.{sheet}
use Rattle.worksheet.proofs.Remained.{remained}
use Rattle.worksheet.proofs.worksheet.Worksheet.remainder.Goals as goal

pub returns-in-Some-first_exponent_outside : goal.returns-in-Some-first_exponent_outside
returns-in-Some-first_exponent_outside g c =
    let fits = c.if-not-fits.ensures.0 refl in
    let i = c.in-Some-first_exponent_outside.term in (
      (
        c.in_default.ensures,
        fits,
        c.if-not-is_done.ensures.0 refl,
        subst⁻¹ (λ m. FirstAt (ExponentFault m c.args.terms.now) i) fits.subject.variables c.in-Some-first_exponent_outside.ensures,
      ),
      refl,
    )

pub returns-then-codes-stairs : goal.returns-then-codes-stairs
returns-then-codes-stairs g c =
    let fits = c.if-not-fits.ensures.0 refl in
    let terms = c.args.terms.now in
    let small = subst⁻¹ (λ m. NoneAt (ExponentFault m terms)) fits.subject.variables c.in_default-first_exponent_outside.ensures in (
      (
        record { codes = c.in_default.ensures; exponents = small },
        fits,
        c.if-not-is_done.ensures.0 refl,
        λ e. c.if-codes-stairs.true (e ∙ sym c.stairs.ensures.is),
      ),
      refl,
    )

pub returns : goal.returns
returns g c =
    let S = g.S.Subject.meaning c.args.subject.now in
    let A = g.F.Field.arithmetic c.args.field.now in
    let s = sheet c.args.self.now in
    let terms = c.args.terms.now in
    let after = c.remainder_codes.new.codes in
    let fits = c.if-not-fits.ensures.0 refl in
    let small = subst⁻¹ (λ m. NoneAt (ExponentFault m terms)) fits.subject.variables c.in_default-first_exponent_outside.ensures in
    let many : length c.args.codes.now ≡ stairs_in s = omega (arith, c.stairs.ensures.is) in
    let same : length after ≡ length c.args.codes.now = c.remainder_codes.auto.codes in
    let admitted : RemainderAdmitted S A terms s (length c.args.codes.now) = record {
      terms = record { codes = c.in_default.ensures; exponents = small };
      fits = fits;
      done = c.if-not-is_done.ensures.0 refl;
      one_each = many;
    } in (
      admitted,
      record { one_each = same ∙ many; below = λ j l. subst (λ q. get_or after j 0 < q) fits.field (c.remainder_codes.ensures.below j l) },
      remained S A terms s (length c.args.codes.now) admitted c.judged.result.now c.judged.ensures after same c.remainder_codes.ensures.remains,
    )
