-- A part of the numbers is written, and no other.
use Rattle.std.proofs.Common.{◌≡◌, ◌+◌, ◌-◌, ◌≤◌, length, ◌∙◌, arith}
use borrow.Rule.Slice.PartMut.{mid_of, mid_len}
use Rattle.linked.proofs.Placing.{in_part, before_part, after_part}
use Rattle.linked.proofs.answering.write_remainder.Goals as goal

pub returns : goal.returns
returns g c =
    let a = c.args.start in
    let n = c.args.stairs in
    let xs = c.args.out.now in
    let ys = c.remainder.new.codes in
    let within : a + n ≤ length xs = c.requires in
    let starts : a ≤ length xs = omega (arith, within) in
    let is_n : a + n - a ≡ n = omega arith in
    let part : length (mid_of a (a + n - a) xs) ≡ a + n - a = mid_len a (a + n) xs within in
    let long : length ys ≡ a + n - a = c.remainder.auto.codes ∙ part in
    record {
      is = (mid_of a (a + n - a) xs, ys, part ∙ is_n, long ∙ is_n, c.remainder.ensures, (λ k h. in_part a (a + n - a) xs ys k starts (omega (arith, h, long, is_n))));
      front = λ k h. before_part a (a + n - a) xs ys k starts h;
      rest = λ k h. after_part a (a + n) xs ys k (omega arith) within long h;
    }
