-- The copies so far are the first judged lines.
use Rattle.std.proofs.Common.{◌≡◌, ℕ, ◌<◌}
use Rattle.rows.specs.Lines.{line}
use Rattle.worksheet.specs.Sheets.{judged}
use Rattle.worksheet.specs.Views.{sheet}
use Rattle.printouts.proofs.copying.copy_lines.Given as goal

abbrev pub invariant-loop-number : goal.invariant-loop-number
invariant-loop-number l = (j : ℕ) → j < l.number → line l.copies j ≡ line (judged (sheet l.from)) j
