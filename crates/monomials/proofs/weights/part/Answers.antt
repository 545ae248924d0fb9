use Rattle.std.proofs.Common.{◌≤◌, mul-le-mul, arith, rules}
use Rattle.monomials.proofs.weights.part.Goals as goal

pub returns : goal.returns
returns c = record {
  value = search rules;
  small = let w : c.from.result ≤ 255 = omega arith in let e : c.from-2.result ≤ 65535 = omega arith in mul-le-mul w e;
}
