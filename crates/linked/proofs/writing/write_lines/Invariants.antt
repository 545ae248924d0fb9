-- The lines so far are written, and nothing after them is changed.
use Rattle.std.proofs.Common.{◌*◌}
use Rattle.worksheet.specs.Sheets.{judged}
use Rattle.worksheet.specs.Views.{sheet}
use Rattle.linked.specs.Numbers.{LinesAt, SameFrom}
use Rattle.linked.proofs.writing.write_lines.Given as goal

abbrev pub invariant-loop-number : goal.invariant-loop-number
invariant-loop-number l = LinesAt l.out l.number (judged (sheet l.sheet)) × SameFrom (69 * l.number) l.initial.out l.out
