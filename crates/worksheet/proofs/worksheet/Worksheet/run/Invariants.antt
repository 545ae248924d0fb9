-- As many monomials are judged since the start as lines are used since, and the numbers still fit.
use Rattle.std.proofs.Common.{◌-◌, ◌≤◌, length}
use Rattle.worksheet.specs.Sheets.{set_up, Fits}
use Rattle.worksheet.specs.Steps.{JudgesMany}
use Rattle.worksheet.specs.Views.{sheet}
use Rattle.worksheet.proofs.worksheet.Worksheet.run.Given as goal

abbrev pub invariant-loop-step : goal.invariant-loop-step
invariant-loop-step g l =
    (l.start ≤ l.self.used) ×
    JudgesMany (set_up (g.S.Subject.meaning l.subject) (g.F.Field.arithmetic l.field) (g.O.MonomialOrder.order l.order)) (l.self.used - l.start) (sheet l.initial.self) (sheet l.self) ×
    Fits (g.S.Subject.meaning l.subject) (g.F.Field.arithmetic l.field) (sheet l.self)

abbrev pub decreases-loop-step : goal.decreases-loop-step
decreases-loop-step g l = length l.self.lent.lines.now - l.self.used
