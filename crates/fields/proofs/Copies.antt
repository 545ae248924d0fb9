-- A product step by step: a · z, a · z ^ 2, .. each reduced from the one before, and their sum over the terms of b.
use Rattle.std.proofs.Common.{◌≡◌, ℕ, zero, suc, ◌*◌, ◌/◌, ◌%◌, ◌^◌, ◌<◌, ◌≤◌, Bool, T, eqb, ltb, sym, refl, ap, ◌∙◌, ap₂, lt_of_le_of_lt, add-zero, mul-le-mul_left, mul-zero, mul-one, arith, eqb→eq, ltb→lt, pow_mono}
use native.Mathlib.Nat.{div-eq_of_lt, div-eq_of_lt-le}
use lib.Bits.{bit_and, bit_xor, and_mask, xor_zero_r}
use Rattle.std.proofs.lemmas.Nat.{one_shl}
use Rattle.fields.specs.Binaries.{degrees, Listed, reduction, coefficient, times, remainder}
use Rattle.fields.specs.TablesLemmas.{every, at_entry, all_below, at_below}
use Rattle.fields.specs.Additive.{Additive, additive_zero, agree, closed, after, by_power, digit, remainder_sum}
use Rattle.fields.specs.BinariesLemmas.{at_pairs, at_pair, small_degree}

-- one step of division: nothing is left of z ^ k where it does not stand
pub step_none : (k m p : ℕ) → p < 2 ^ k → remainder k m 1 p ≡ p
step_none k m p h =
    ap (λ i. bit_xor p (m * 1 * coefficient i p)) (add-zero k) ∙ ap (λ c. bit_xor p (m * 1 * (c % 2))) (div-eq_of_lt h)
    ∙ ap (bit_xor p) (mul-zero (m * 1)) ∙ xor_zero_r p

-- and m takes it away where it stands
pub step_once : (k m p : ℕ) → 2 ^ k ≤ p → p < 2 ^ k * 2 → remainder k m 1 p ≡ bit_xor p m
step_once k m p h l =
    ap (λ i. bit_xor p (m * 1 * coefficient i p)) (add-zero k) ∙ ap (λ c. bit_xor p (m * 1 * (c % 2))) once
    ∙ ap (bit_xor p) (mul-one (m * 1) ∙ mul-one m)
  where
    once : p / 2 ^ k ≡ 1
    once = div-eq_of_lt-le {k = 1} (2 ^ k) (omega arith) (omega arith)

-- z times a code
abbrev by_z : ℕ → ℕ → ℕ
by_z k x = remainder k (reduction k) 1 (x * 2)

-- a · z ^ i, reduced at each step
abbrev pub copy : ℕ → ℕ → ℕ → ℕ
copy k zero a = a
copy k (suc i) a = by_z k (copy k i a)

-- the sum of those for the n lowest terms of b
abbrev pub copies : ℕ → ℕ → ℕ → ℕ → ℕ
copies k zero a b = 0
copies k (suc i) a b = bit_xor (copies k i a b) (copy k i a * coefficient i b)

by_z_sum : (k : ℕ) → Additive (by_z k)
by_z_sum k = after (λ x. x * 2 ^ 1) (remainder k (reduction k) 1) (by_power 1) (remainder_sum k (reduction k) 1)

copy_sum : (k i : ℕ) → Additive (copy k i)
copy_sum k zero = λ x y. refl
copy_sum k (suc i) = after (copy k i) (by_z k) (copy_sum k i) (by_z_sum k)

-- a coefficient passes through an additive function
digit_out : (f : ℕ → ℕ) → Additive f → (x c : ℕ) → c < 2 → f (x * c) ≡ f x * c
digit_out f F x zero h = ap f (mul-zero x) ∙ additive_zero f F ∙ sym (mul-zero (f x))
digit_out f F x (suc zero) h = ap f (mul-one x) ∙ sym (mul-one (f x))
digit_out f F x (suc (suc c)) h = absurd (omega arith)

-- the tests: z times a power of z is a code, and the steps lead to the remainder
abbrev code_at : ℕ → ℕ → Bool
code_at k i = ltb (by_z k (2 ^ i)) (2 ^ k)

abbrev copy_at : ℕ → ℕ → ℕ → Bool
copy_at k i j = eqb (copy k i (2 ^ j)) (remainder k (reduction k) k (2 ^ j * 2 ^ i))

codes : ℕ → Bool
codes k = all_below k (code_at k)

same : ℕ → Bool
same k = at_pairs k (copy_at k)

all_codes : T (every codes degrees)
unfolding codes
all_codes = tt

all_same : T (every same degrees)
unfolding same
all_same = tt

-- 2 ^ k is what `1 << k` gives in 16 bits
pub order_fits : (k : ℕ) → Listed k → (1 * 2 ^ k) % 65536 ≡ 2 ^ k
order_fits k listed = one_shl k 16 (omega (arith, small_degree k listed))

-- and a code times a coefficient fits them
pub term_fits : (k : ℕ) → Listed k → (x n : ℕ) → x < 2 ^ k → x * bit_and n 1 < 65536
term_fits k listed x n h = rw (and_mask n 1) (lt_of_le_of_lt (mul-le-mul_left x bit) (omega (arith, order)))
  where
    bit : n % 2 ≤ 1
    bit = omega arith

    order : 2 ^ k ≤ 256
    order = pow_mono (small_degree k listed)

module _ (k : ℕ) (listed : Listed k) where
  by_z_below : (x : ℕ) → x < 2 ^ k → by_z k x < 2 ^ k
  unfolding codes
  by_z_below = closed k (by_z k) (by_z_sum k) k (λ i h. ltb→lt _ _ (at_below k (code_at k) (at_entry codes k degrees all_codes listed) i h))

  pub copy_below : (i a : ℕ) → a < 2 ^ k → copy k i a < 2 ^ k
  copy_below zero a h = h
  copy_below (suc i) a h = by_z_below (copy k i a) (copy_below i a h)

  -- a copy is the remainder of a · z ^ i
  copy_is : (i a : ℕ) → i < k → a < 2 ^ k → copy k i a ≡ remainder k (reduction k) k (a * 2 ^ i)
  unfolding same
  copy_is i a l h =
      agree (copy k i) (λ x. remainder k (reduction k) k (x * 2 ^ i)) (copy_sum k i)
      (after (λ x. x * 2 ^ i) (remainder k (reduction k) k) (by_power i) (remainder_sum k (reduction k) k)) k
      (λ j lj. eqb→eq _ _ (at_pair k (copy_at k) (at_entry same k degrees all_same listed) i j l lj)) a h

  -- and the sum of the copies is the remainder of the product
  pub copies_are : (n a b : ℕ) → n ≤ k → a < 2 ^ k → copies k n a b ≡ remainder k (reduction k) k (times n a b)
  copies_are zero a b l h = sym (additive_zero (remainder k (reduction k) k) (remainder_sum k (reduction k) k))
  copies_are (suc i) a b l h =
      ap₂ bit_xor (copies_are i a b (omega arith) h)
      (ap (λ x. x * coefficient i b) (copy_is i a (omega arith) h) ∙ sym (digit_out (remainder k (reduction k) k) R (a * 2 ^ i) (coefficient i b) (digit i b)))
      ∙ sym (R (times i a b) (a * 2 ^ i * coefficient i b))
    where
      R : Additive (remainder k (reduction k) k)
      R = remainder_sum k (reduction k) k
