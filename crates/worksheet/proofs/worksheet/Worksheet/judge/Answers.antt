-- The line keeps the echelon form and was made for a monomial that waits, so the sheet stays sound.
use Rattle.std.proofs.Common.{◌+◌, ◌≤◌, length, refl, subst, arith}
use mathlib.Core.Path.{subst⁻¹}
use Rattle.std.proofs.lemmas.List.{length-set}
use Rattle.monomials.specs.Monomials.{mono}
use Rattle.monomials.specs.declared.monomial.Monomial.{Monomial}
use Rattle.rows.specs.Lines.{Stands, AllStand}
use Rattle.rows.specs.Sheets.{Waits}
use Rattle.worksheet.specs.Sheets.{judged}
use Rattle.worksheet.specs.Views.{sheet}
use Rattle.worksheet.proofs.Writing.{keeps_fit, put_path, line_free, written_sound}
use Rattle.worksheet.proofs.worksheet.Worksheet.judge.Goals as goal

pub invariant_of-self : goal.invariant_of-self
invariant_of-self g c =
    let w = c.args.self.now in
    let s = sheet w in
    let S = g.S.Subject.meaning c.args.subject.now in
    let A = g.F.Field.arithmetic c.args.field.now in
    let made = c.line_of-line in
    let l = made.result in
    let keeps = keeps_fit S A s c.requires.fits c.judged.result.now c.judged.ensures l made.ensures.echelon in
    let waited : Waits s.variables (judged s) (mono l.monomial.exponents) =
    subst⁻¹ (λ (a : Monomial). Waits s.variables (judged s) (mono a.exponents)) made.ensures.own c.requires.waits in
    let lines = c.write.new.self.lines.now in
    record {
      room = subst⁻¹ (λ x. s.used + 1 ≤ length x) c.write.ensures (omega (arith, length-set s.lines s.used l, c.requires.unused));
      some = w.some;
      few = w.few;
      narrow = w.narrow;
      sound = written_sound s w.sound l keeps c.requires.unused waited lines c.write.ensures;
    }

pub returns : goal.returns
returns g c =
    let w = c.args.self.now in
    let s = sheet w in
    let S = g.S.Subject.meaning c.args.subject.now in
    let A = g.F.Field.arithmetic c.args.field.now in
    let made = c.line_of-line in
    let l = made.result in
    let keeps = keeps_fit S A s c.requires.fits c.judged.result.now c.judged.ensures l made.ensures.echelon in
    record {
      own = made.ensures.own;
      written = record {
        line = l;
        of_monomial = refl;
        with_verdict = refl;
        writes = record {
          unused = c.requires.unused;
          free = line_free s w.sound l keeps;
          stands = subst (λ b. AllStand S A b → Stands S A b l) c.judged.ensures made.ensures.stands;
          put = put_path s l c.write.new.self.lines.now c.write.ensures;
        };
      };
    }
