use Rattle.std.proofs.Common.{◌≡◌, Ok, string_bytes, rules}
use Rattle.show_staircase.proofs.Counts.{up_to_more}
use Rattle.show_staircase.proofs.pieces.up_to.Goals as goal

pub loop-number-preserved : goal.loop-number-preserved
loop-number-preserved g c = λ spelled each.
    let number = c.loop-number.number in
    let before = c.loop-number.invariant spelled each in
    let piece : string_bytes c.in_ok-piece.field-0 ≡ spelled number =
    each number c.loop-number-test.true (Ok c.in_ok-piece.field-0) c.in_ok-piece.ensures in
    search (rules, up_to_more spelled number)
