-- The product of four periods fits 64 bits.
use Rattle.std.proofs.Common.{ℕ, ◌*◌, ◌^◌, ◌<◌, ◌≤◌, mul-le-mul, arith, rules}
use Rattle.polynomials.proofs.cells.cell_count.Goals as goal

-- the product of four numbers of 16 bits
product_fits : (a b c d : ℕ) → a ≤ 65535 → b ≤ 65535 → c ≤ 65535 → d ≤ 65535 → a * (b * (c * d)) < 2 ^ 64
product_fits a b c d ha hb hc hd = omega (arith, mul-le-mul ha (mul-le-mul hb (mul-le-mul hc hd)))

pub overflow_mul-result-3 : goal.overflow_mul-result-3
overflow_mul-result-3 c =
    search (rules, product_fits c.from-first.result c.from-second.result c.from-third.result c.from-fourth.result (omega arith) (omega arith) (omega arith) (omega arith))
