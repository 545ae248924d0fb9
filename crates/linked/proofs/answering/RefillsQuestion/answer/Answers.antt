-- One code more is written, or a refill is refused.
use Rattle.std.proofs.Common.{◌≡◌, ◌/◌, ◌<◌, ◌≤◌, ◌≢◌, length, Ok, Err, sym, refl, ◌∙◌, subst, inl, inr, arith, get_or-set_other, get_or-set_same, below_more}
use Rattle.monomials.specs.Monomials.{mono}
use Rattle.worksheet.specs.Questions.{Refills}
use Rattle.worksheet.specs.Views.{sheet}
use Rattle.linked.specs.Answers.{Refilled}
use Rattle.linked.proofs.answering.RefillsQuestion.answer.Goals as goal

pub returns-in-Err : goal.returns-in-Err
returns-in-Err g c =
    let A = g.F.Field.arithmetic c.args.field.now in
    let s = sheet c.args.sheet.now in
    let taken : c.loop-number.number < length c.args.self.now.exponents.now / 4 = c.loop-number-test.true in
    record {
      whole = inr (refl, inr (c.loop-number.number, c.in-Err._fault, taken, subst (λ e. Refills A c.args.self.now.codes.now (mono e) s (Err c.in-Err._fault)) c.monomial_at-monomial.ensures c.in-Err.ensures));
      each = λ i h. absurd (omega arith);
      rest = λ k h. c.loop-number.invariant.1 k (omega (arith, h, taken));
    }

pub loop-number-preserved : goal.loop-number-preserved
loop-number-preserved g c =
    let A = g.F.Field.arithmetic c.args.field.now in
    let s = sheet c.args.sheet.now in
    let codes = c.args.self.now.codes.now in
    let asked = c.args.self.now.exponents.now in
    let n = c.loop-number.number in
    let out = c.loop-number.out in
    let code = c.in-Ok.code in
    let taken : n < length asked / 4 = c.loop-number-test.true in
    let room : length asked / 4 ≤ length c.args.out.now = c.if-count-out.false in
    let long : length out ≡ length c.args.out.now = c.loop-number.auto.out in
    let inside : n < length out = omega (arith, taken, room, long) in
    let said : Refills A codes (mono c.monomial_at-monomial.result.exponents) s (Ok code) = c.in-Ok.ensures in
    let new : Refilled A codes asked s n code = subst (λ e. Refills A codes (mono e) s (Ok code)) c.monomial_at-monomial.ensures said in (
      below_more _ _
          (λ i h. let ne : i ≢ n = omega (arith, h) in subst (λ v. Refilled A codes asked s i v) (sym (get_or-set_other out n i code 0 ne)) (c.loop-number.invariant.0 i h))
          (subst (λ v. Refilled A codes asked s n v) (sym (get_or-set_same out n code 0 inside)) new),
      (λ k h. let ne : k ≢ n = omega (arith, h) in get_or-set_other out n k code 0 ne ∙ c.loop-number.invariant.1 k (omega (arith, h))),
    )

pub returns : goal.returns
returns g c =
    let n = c.loop-number.number in
    let ends : length c.args.self.now.exponents.now / 4 ≤ n = c.loop-number-test.false in
    let most : n ≤ length c.args.self.now.exponents.now / 4 = c.loop-number.auto.number-end in
    record {
      whole = inl refl;
      each = λ i h. c.loop-number.invariant.0 i (omega (arith, h, ends));
      rest = λ k h. c.loop-number.invariant.1 k (omega (arith, h, most));
    }
