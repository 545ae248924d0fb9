-- The binary fields. A number stands for a polynomial in z over the bits: its binary digit i is the coefficient of z ^ i.
use Rattle.std.specs.Prelude.{ℕ, zero, suc, ◌+◌, ◌*◌, ◌/◌, ◌%◌, ◌^◌, cond, T, List, [], ◌∷◌, ◌==◌, bit_xor}
use Rattle.fields.specs.Arithmetic.{Arithmetic}
use Rattle.fields.specs.Tables.{among}

-- the four degrees
abbrev pub degrees : List ℕ
degrees = 2 ∷ 3 ∷ 4 ∷ 8 ∷ []

-- a degree of the table
abbrev pub Listed : ℕ → Type 0
Listed k = T (among k degrees)

-- the polynomial of degree k that products are reduced by: z ^ k + z + 1, but for degree 8 z ^ 8 + z ^ 4 + z ^ 3 + z + 1
abbrev pub reduction : ℕ → ℕ
reduction k = cond (k == 8) (2 ^ 8 + 2 ^ 4 + 2 ^ 3 + 2 + 1) (2 ^ k + 2 + 1)

-- the coefficient of z ^ i in p
abbrev pub coefficient : ℕ → ℕ → ℕ
coefficient i p = p / 2 ^ i % 2

-- the product of a and the terms of b below z ^ n: the sum of a · z ^ i over the terms z ^ i
abbrev pub times : ℕ → ℕ → ℕ → ℕ
times zero a b = 0
times (suc i) a b = bit_xor (times i a b) (a * 2 ^ i * coefficient i b)

-- the remainder of p, with terms below z ^ (k + n), by m of degree k: long division, where m · z ^ i takes z ^ (k + i) away, the highest first
abbrev pub remainder : ℕ → ℕ → ℕ → ℕ → ℕ
remainder k m zero p = p
remainder k m (suc i) p = remainder k m i (bit_xor p (m * 2 ^ i * coefficient (k + i) p))

-- sums by coefficients, each its own negative; products of polynomials, reduced; a number at or above 2 ^ k counts as its remainder by 2 ^ k
abbrev pub binary : ℕ → Arithmetic
binary k = record {
  order = 2 ^ k;
  sum = λ a b. bit_xor a b % 2 ^ k;
  negative = λ a. a % 2 ^ k;
  product = λ a b. remainder k (reduction k) k (times k (a % 2 ^ k) (b % 2 ^ k));
}
