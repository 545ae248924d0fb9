-- The sheet is opened over 193 lines under the array that was set, run and asked.
use Rattle.std.proofs.Common.{replicate, refl, subst₂, unwrap_or}
use Rattle.polynomials.specs.Arrays.{array_meaning}
use Rattle.worksheet.specs.declared.answers.Ending.TheVariants as endings
use Rattle.worksheet.specs.Views.{sheet}
use Rattle.linked.specs.Works.{answered, full, refused}
use Rattle.linked.proofs.Working.{ran_to}
use Rattle.linked.proofs.dispatch.work_out.Goals as goal

pub returns-in-Err : goal.returns-in-Err
returns-in-Err g c = refused c.in-Err._fault c.in-Err.ensures (refl, refl)

pub returns-in-Finished : goal.returns-in-Finished
returns-in-Finished g c =
    let array = c.in-Ok.array in
    let A = g.F.Field.arithmetic c.args.field.now in
    let O = g.O.MonomialOrder.order c.args.order.now in
    let pattern = c.args.pattern.now in
    let lent = replicate 193 c.unused-lines.result in
    let after = sheet c.run.new.self in
    let (admitted, same_periods, same_cells) = c.in-Ok.ensures in
    answered after
    (ran_to A O pattern.periods.now pattern.cells.now array.periods.now array.cells.now (same_periods, same_cells) admitted lent refl (sheet c.open-sheet.result)
    c.open-sheet.ensures c.in-Ok-run.ran after c.in-Ok-run.ensures endings.Finished c.in-Finished.is)
    (subst₂ (λ x y. g.Q.Question.answers c.args.question.now (array_meaning x y) A after c.args.out.now (unwrap_or c.answer.result 0) c.answer.new.out) same_periods same_cells
    c.answer.ensures)

pub returns-in-Full : goal.returns-in-Full
returns-in-Full g c =
    let array = c.in-Ok.array in
    let A = g.F.Field.arithmetic c.args.field.now in
    let O = g.O.MonomialOrder.order c.args.order.now in
    let pattern = c.args.pattern.now in
    let lent = replicate 193 c.unused-lines.result in
    let after = sheet c.run.new.self in
    let (admitted, same_periods, same_cells) = c.in-Ok.ensures in
    full after
    (ran_to A O pattern.periods.now pattern.cells.now array.periods.now array.cells.now (same_periods, same_cells) admitted lent refl (sheet c.open-sheet.result)
    c.open-sheet.ensures c.in-Ok-run.ran after c.in-Ok-run.ensures endings.Full c.in-Full.is)
    (refl, refl)
