-- Twice a code needs one step of division at most.
use Rattle.std.proofs.Common.{◌*◌, sym, ap, ◌∙◌, arith}
use lib.Bits.{bit_xor}
use Rattle.fields.specs.Binaries.{reduction}
use Rattle.fields.proofs.Copies.{step_none, step_once, order_fits}
use Rattle.fields.proofs.binary.Binary.by_z.Goals as goal

pub returns-then-double-self : goal.returns-then-double-self
returns-then-double-self c =
    let f = c.args.self.now in
    sym (step_none f.degree (reduction f.degree) (c.args.code * 2) (omega (arith, order_fits f.degree f.listed)))

pub returns-else-double-self : goal.returns-else-double-self
returns-else-double-self c =
    let f = c.args.self.now in
    ap (bit_xor (c.args.code * 2)) f.reduces
    ∙ sym (step_once f.degree (reduction f.degree) (c.args.code * 2) (omega (arith, order_fits f.degree f.listed)) (omega arith))
