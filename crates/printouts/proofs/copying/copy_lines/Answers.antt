-- As many lines are judged as are used.
use Rattle.std.proofs.Common.{◌≡◌, length, sym, ◌∙◌, arith}
use Rattle.std.proofs.lemmas.List.{length-take-le}
use Rattle.worksheet.specs.Sheets.{judged}
use Rattle.worksheet.specs.Views.{sheet}
use Rattle.printouts.proofs.Copies.{copied}
use Rattle.printouts.proofs.copying.copy_lines.Goals as goal

pub returns : goal.returns
returns c =
    let w = c.args.from.now in
    let copies = c.loop-number.copies in
    let long : length (judged (sheet w)) ≡ length copies = length-take-le w.used w.lent.lines.now w.room ∙ omega (arith, c.requires, c.loop-number.auto.copies) in
    copied copies (judged (sheet w)) long (λ j h. c.loop-number.invariant j (omega (arith, h, c.loop-number-test.false)))
