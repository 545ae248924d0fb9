-- The tally of the lines so far, each of them counted once.
use Rattle.std.proofs.Common.{◌≡◌, ◌+◌, length, take}
use Rattle.rows.specs.Lines.{stairs_of, relations_of}
use Rattle.rows.proofs.tally.count.Given as goal

abbrev pub invariant-loop-line : goal.invariant-loop-line
invariant-loop-line l =
    (l.stairs ≡ length (stairs_of (take l.line-index l.lines))) ×
    (l.relations ≡ length (relations_of (take l.line-index l.lines))) ×
    (l.stairs + l.relations ≡ l.line-index)
