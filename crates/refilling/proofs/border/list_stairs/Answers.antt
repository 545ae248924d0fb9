-- A stair for which there is no room is one too many.
use Rattle.std.proofs.Common.{◌≡◌, length, None, ap, rules, arith}
use Rattle.refilling.proofs.Listed.{stair_room}
use Rattle.refilling.proofs.border.list_stairs.Goals as goal

pub returns-in_err-ok : goal.returns-in_err-ok
returns-in_err-ok c =
    let none : c.from_residual.result ≡ None = search rules in
    let full : length c.loop-line.stairs.items ≡ 64 = search rules in
    rw none (omega (arith, ap length c.loop-line.invariant.listed, stair_room c.args.lines.now c.loop-line.line-index c.loop-line-test.true c.in-Stair.is))
