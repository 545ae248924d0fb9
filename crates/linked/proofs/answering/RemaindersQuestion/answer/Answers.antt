-- One remainder more is written, or one is refused.
use Rattle.std.proofs.Common.{◌≡◌, ◌+◌, ◌*◌, ◌/◌, ◌<◌, min, length, Ok, refl, ◌∙◌, subst, inr, arith, below_more}
use Rattle.worksheet.specs.Questions.{stairs_in, RemainderRefused}
use Rattle.worksheet.specs.Views.{sheet}
use Rattle.linked.specs.Answers.{RemainderAt, Remaindered}
use Rattle.linked.proofs.answering.RemaindersQuestion.answer.Goals as goal

pub returns-in-Err : goal.returns-in-Err
returns-in-Err g c =
    let S = g.S.Subject.meaning c.args.subject.now in
    let A = g.F.Field.arithmetic c.args.field.now in
    let s = sheet c.args.sheet.now in
    let n = c.loop-number.number in
    let few : c.places-stairs.result ≡ min (stairs_in s) 64 = c.places-stairs.ensures in
    let taken : n < length c.args.self.now.polynomials.now / 320 = c.loop-number-test.true in
    let ts = c.terms_from-terms.result in
    let fault = c.in-Err._fault in
    let e = c.in-Err.ensures.is in
    record {
      whole = inr (
        refl,
        inr
            (record {
              at = n;
              within = taken;
              terms = ts;
              of_numbers = c.terms_from-terms.ensures;
              fault = fault;
              refused = subst (λ m. RemainderRefused S A ts s m fault) (e.2 ∙ few) e.4.0;
            }),
      );
      each = λ i h. absurd (omega arith);
      rest = λ k h. c.write_remainder.ensures.rest k (omega (arith, h, taken, few)) ∙ c.loop-number.invariant.1 k (omega (arith, h, taken));
    }

pub loop-number-preserved : goal.loop-number-preserved
loop-number-preserved g c =
    let S = g.S.Subject.meaning c.args.subject.now in
    let A = g.F.Field.arithmetic c.args.field.now in
    let s = sheet c.args.sheet.now in
    let asked = c.args.self.now.polynomials.now in
    let n = c.loop-number.number in
    let now = c.write_remainder.new.out in
    let few : c.places-stairs.result ≡ min (stairs_in s) 64 = c.places-stairs.ensures in
    let ts = c.terms_from-terms.result in
    let fresh : RemainderAt S A ts s c.places-stairs.result (64 * n) (Ok tt) now = c.in_default.ensures.is in (
      below_more _ _
          (λ i h.
          let old : Remaindered S A asked s c.loop-number.out i = c.loop-number.invariant.0 i h in
          let r = old.remains in
          record {
            terms = old.terms;
            of_numbers = old.of_numbers;
            remains = (r.0, r.1, r.2, r.3, r.4, (λ k l. c.write_remainder.ensures.front (64 * i + k) (omega (arith, h, l)) ∙ r.5 k l));
          })
          (record { terms = ts; of_numbers = c.terms_from-terms.ensures; remains = subst (λ m. RemainderAt S A ts s m (64 * n) (Ok tt) now) few fresh }),
      (λ k h. c.write_remainder.ensures.rest k (omega (arith, h, few)) ∙ c.loop-number.invariant.1 k (omega (arith, h))),
    )
