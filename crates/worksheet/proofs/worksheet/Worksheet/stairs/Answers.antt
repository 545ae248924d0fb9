-- The stairs are counted among the judged lines, and are at most as many as positions.
use Rattle.std.proofs.Common.{◌≡◌, length, ap, ◌∙◌, arith}
use Rattle.rows.specs.Lines.{stairs_of}
use Rattle.worksheet.specs.Sheets.{judged}
use Rattle.worksheet.specs.Questions.{stairs_in}
use Rattle.worksheet.specs.Views.{sheet}
use Rattle.worksheet.proofs.Soundness.{sound_few}
use Rattle.worksheet.proofs.worksheet.Worksheet.stairs.Goals as goal

pub returns : goal.returns
returns c =
    let s = c.args.self.now in
    let is : c.count.result.stairs ≡ stairs_in (sheet s) = c.count.ensures.stairs ∙ ap (λ x. length (stairs_of x)) c.judged.ensures in
    record { is = is; few = omega (arith, is, sound_few s.variables s.width s.order (judged (sheet s)) s.sound, s.narrow) }
