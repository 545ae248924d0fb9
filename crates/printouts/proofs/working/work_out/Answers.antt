-- The sheet is opened over 193 lines under the array, and run.
use Rattle.std.proofs.Common.{replicate, string_bytes, refl, ap, ◌∙◌}
use Rattle.worksheet.specs.Views.{sheet}
use Rattle.listings.specs.Listings.{refusal_line}
use Rattle.printouts.specs.Printouts.{pattern, ListsRow}
use Rattle.printouts.proofs.Texts.{made_so}
use Rattle.printouts.proofs.WorkedOut.{sheet_fits, sheet_few, sheet_done, sheet_listed, sheet_full}
use Rattle.printouts.proofs.working.work_out.Goals as goal

pub finished_text-requires : goal.finished_text-requires
finished_text-requires g c =
    let array = c.in-Ok.array in
    let A = g.F.Field.arithmetic c.args.field.now in
    let F = g.met.F.Field.laws c.args.field.now in
    let O = g.O.MonomialOrder.order c.args.order.now in
    let K = g.met.O.MonomialOrder.laws c.args.order.now in
    let lent = replicate 193 c.unused-lines.result in
    let s = sheet c.open-sheet.result in
    let after = sheet c.run.new.self in
    record {
      done = sheet_done array _ _ (refl, refl) A F O K lent refl s c.open-sheet.ensures c.in-Ok-run.ran after c.in-Ok-run.ensures c.in-Finished.is;
      fits = sheet_fits array _ _ (refl, refl) A F O K lent refl s c.open-sheet.ensures c.in-Ok-run.ran after c.in-Ok-run.ensures;
      few = sheet_few array _ _ (refl, refl) A F O K lent refl s c.open-sheet.ensures c.in-Ok-run.ran after c.in-Ok-run.ensures;
    }

pub returns-in-Finished : goal.returns-in-Finished
returns-in-Finished g c =
    let array = c.in-Ok.array in
    let A = g.F.Field.arithmetic c.args.field.now in
    let F = g.met.F.Field.laws c.args.field.now in
    let O = g.O.MonomialOrder.order c.args.order.now in
    let K = g.met.O.MonomialOrder.laws c.args.order.now in
    let lent = replicate 193 c.unused-lines.result in
    let s = sheet c.open-sheet.result in
    let after = sheet c.run.new.self in
    made_so string_bytes _ (ListsRow (pattern A O c.args.periods.now c.args.cells.now)) c.finished_text.result c.finished_text.ensures
    (sheet_listed array c.args.periods.now c.args.cells.now (c.in-Ok.ensures.1, c.in-Ok.ensures.2) A F O K lent refl s c.open-sheet.ensures c.in-Ok-run.ran after c.in-Ok-run.ensures
    c.in-Finished.is)

pub returns-in-Full : goal.returns-in-Full
returns-in-Full g c =
    let array = c.in-Ok.array in
    let A = g.F.Field.arithmetic c.args.field.now in
    let F = g.met.F.Field.laws c.args.field.now in
    let O = g.O.MonomialOrder.order c.args.order.now in
    let K = g.met.O.MonomialOrder.laws c.args.order.now in
    let lent = replicate 193 c.unused-lines.result in
    let s = sheet c.open-sheet.result in
    let after = sheet c.run.new.self in
    made_so string_bytes _ (ListsRow (pattern A O c.args.periods.now c.args.cells.now)) c.refusal_line-in-Full.result c.refusal_line-in-Full.ensures
    (λ text is.
    sheet_full array c.args.periods.now c.args.cells.now (c.in-Ok.ensures.1, c.in-Ok.ensures.2) A F O K lent refl s c.open-sheet.ensures c.in-Ok-run.ran after c.in-Ok-run.ensures
    c.in-Full.is text (is ∙ ap refusal_line c.from-in-Full.ensures))
