-- Each turn judges one monomial more, until a step finds the sheet finished or no line left.
use Rattle.std.proofs.Common.{Ok, refl, ap, ◌∙◌, subst}
use mathlib.Core.Path.{subst⁻¹}
use Rattle.worksheet.specs.Sheets.{set_up, Done}
use Rattle.worksheet.specs.Steps.{Steps}
use Rattle.worksheet.specs.Views.{sheet}
use Rattle.worksheet.proofs.Runs.{judged_more, judged_same}
use Rattle.worksheet.proofs.worksheet.Worksheet.run.Goals as goal

pub returns-in_default-step : goal.returns-in_default-step
returns-in_default-step g c =
    let U = set_up (g.S.Subject.meaning c.args.subject.now) (g.F.Field.arithmetic c.args.field.now) (g.O.MonomialOrder.order c.args.order.now) in
    let s = sheet c.loop-step.self in
    let after = sheet c.step.new.self in
    let (fits, done, same) = subst (λ r. Steps U s r after) (c.in-Ok.is ∙ ap Ok c.in_default-step.is) c.step.ensures in
    (c.if-not-fits.ensures.0 refl, judged_same U c.args.self.now.used (sheet c.args.self.now) s after c.loop-step.invariant same, subst⁻¹ Done same done)

pub loop-step-preserved : goal.loop-step-preserved
loop-step-preserved g c =
    let U = set_up (g.S.Subject.meaning c.args.subject.now) (g.F.Field.arithmetic c.args.field.now) (g.O.MonomialOrder.order c.args.order.now) in
    let s = sheet c.loop-step.self in
    let after = sheet c.step.new.self in
    let h = subst (λ r. Steps U s r after) (c.in-Ok.is ∙ ap Ok c.in-Some.is) c.step.ensures in
    judged_more U c.args.self.now.used (sheet c.args.self.now) s after c.loop-step.invariant h.1
