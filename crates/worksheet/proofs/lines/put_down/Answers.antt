-- A write at the front of the tail is a write at the first unused place.
use Rattle.std.proofs.Common.{◌-◌, length, set, ap, ◌∙◌, add-zero, arith, length-drop, length-take}
use borrow.Rule.Slice.PartMut.{put_mid, set_mid_at}
use Rattle.worksheet.proofs.lines.put_down.Goals as goal

pub returns : goal.returns
returns c =
    let xs = c.args.lines.now in
    let k = length xs - c.args.used in
    ap (put_mid c.args.used k xs) c.put_first.ensures ∙
    set_mid_at c.args.used k 0 xs c.args.line (simp (length-take, length-drop) (omega (arith, c.requires))) ∙
    ap (λ i. set xs i c.args.line) (add-zero c.args.used)
