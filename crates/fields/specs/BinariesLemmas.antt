-- The ring laws of a binary field: products are additive on either side, so tests at the powers of z settle them.
use Rattle.std.specs.Prelude.{◌≡◌, ℕ, ◌%◌, ◌^◌, ◌<◌, ◌≤◌, Bool, T, ltb, ◌==◌, bit_xor, nat_le, nat_lt, refl}
use Rattle.std.proofs.Common.{sym, ◌∙◌, ap, mod-lt, mod-eq_of_lt, leb→le, pow_pos}
use Rattle.std.proofs.Math.Nat.{mod-mod}
use Rattle.std.specs.Int.Bits.{xor_zero_r, xor_assoc, xor_self}
use Rattle.std.proofs.lemmas.Nat.{xor_comm, xor_mod, xor_lt}
use Rattle.std.proofs.Math.Dec.{eqb→eq, ltb→lt}
use Rattle.std.proofs.Math.Pow.{pow-lt}
use Rattle.fields.specs.Arithmetic.{RingLaws}
use Rattle.fields.specs.Binaries.{degrees, Listed, reduction, times, remainder, binary}
use Rattle.fields.specs.TablesLemmas.{every, at_entry, all_below, at_below}
use Rattle.fields.specs.Additive.{Biadditive, agree, agree_twice, closed_twice, after, times_left, times_right, remainder_sum}

-- the product of codes of degree k
abbrev pub mul : ℕ → ℕ → ℕ → ℕ
mul k a b = remainder k (reduction k) k (times k a b)

-- it is additive in each factor
pub mul_sums : (k : ℕ) → Biadditive (mul k)
mul_sums k = record {
  left = λ b. after (λ a. times k a b) (remainder k (reduction k) k) (times_left k b) (remainder_sum k (reduction k) k);
  right = λ a. after (times k a) (remainder k (reduction k) k) (times_right k a) (remainder_sum k (reduction k) k);
}

-- a test at all pairs of powers of z
abbrev pub at_pairs : ℕ → (ℕ → ℕ → Bool) → Bool
at_pairs k f = all_below k (λ i. all_below k (f i))

pub at_pair : (k : ℕ) (f : ℕ → ℕ → Bool) → T (at_pairs k f) → (i j : ℕ) → i < k → j < k → T (f i j)
at_pair k f t i j h l = at_below k (f i) (at_below k (λ i. all_below k (f i)) t i h) j l

-- the tests at powers of z
abbrev code_at : ℕ → ℕ → ℕ → Bool
code_at k i j = nat_lt (mul k (2 ^ i) (2 ^ j)) (2 ^ k)

abbrev commutes_at : ℕ → ℕ → ℕ → Bool
commutes_at k i j = mul k (2 ^ i) (2 ^ j) == mul k (2 ^ j) (2 ^ i)

abbrev one_at : ℕ → ℕ → Bool
one_at k i = mul k (2 ^ i) 1 == 2 ^ i

abbrev associates_at : ℕ → ℕ → ℕ → ℕ → Bool
associates_at k l i j = mul k (mul k (2 ^ i) (2 ^ j)) (2 ^ l) == mul k (2 ^ i) (mul k (2 ^ j) (2 ^ l))

-- and at all those below z ^ k
codes : ℕ → Bool
codes k = at_pairs k (code_at k)

commutes : ℕ → Bool
commutes k = at_pairs k (commutes_at k)

keeps : ℕ → Bool
keeps k = all_below k (one_at k)

associates : ℕ → Bool
associates k = all_below k (λ l. at_pairs k (associates_at k l))

-- every degree passes, computed
all_codes : T (every codes degrees)
unfolding codes
all_codes = tt

all_commute : T (every commutes degrees)
unfolding commutes
all_commute = tt

all_keep : T (every keeps degrees)
unfolding keeps
all_keep = tt

all_associate : T (every associates degrees)
unfolding associates
all_associate = tt

-- a degree is from 1 to 8
pub some_degree : (k : ℕ) → Listed k → 0 < k
some_degree k listed = ltb→lt 0 k (at_entry (ltb 0) k degrees tt listed)

pub small_degree : (k : ℕ) → Listed k → k ≤ 8
small_degree k listed = leb→le k 8 (at_entry (λ d. nat_le d 8) k degrees tt listed)

module _ (k : ℕ) (listed : Listed k) where
  pub some_code : 0 < 2 ^ k
  some_code = pow_pos k

  pub two_codes : 1 < 2 ^ k
  two_codes = pow-lt (some_degree k listed)

  pub mul_below : (a b : ℕ) → a < 2 ^ k → b < 2 ^ k → mul k a b < 2 ^ k
  unfolding codes
  mul_below = closed_twice k (mul k) (mul_sums k) k (λ i j h l. ltb→lt _ _ (at_pair k (code_at k) (at_entry codes k degrees all_codes listed) i j h l))

  pub mul_comm : (a b : ℕ) → a < 2 ^ k → b < 2 ^ k → mul k a b ≡ mul k b a
  unfolding commutes
  mul_comm =
      agree_twice (mul k) (λ a b. mul k b a) (mul_sums k) (record { left = (mul_sums k).right; right = (mul_sums k).left }) k
      (λ i j h l. eqb→eq _ _ (at_pair k (commutes_at k) (at_entry commutes k degrees all_commute listed) i j h l))

  pub mul-one : (a : ℕ) → a < 2 ^ k → mul k a 1 ≡ a
  unfolding keeps
  mul-one =
      agree (λ x. mul k x 1) (λ x. x) ((mul_sums k).left 1) (λ x y. refl) k
      (λ i h. eqb→eq _ _ (at_below k (one_at k) (at_entry keeps k degrees all_keep listed) i h))

  -- with a power of z as the third factor the other two are tested, and then any third factor follows
  pub mul_assoc : (a b c : ℕ) → a < 2 ^ k → b < 2 ^ k → c < 2 ^ k → mul k (mul k a b) c ≡ mul k a (mul k b c)
  unfolding associates
  mul_assoc a b c ha hb hc =
      agree (mul k (mul k a b)) (λ z. mul k a (mul k b z)) (M.right (mul k a b)) (after (mul k b) (mul k a) (M.right b) (M.right a)) k
      (λ l h. at_power l h a b ha hb) c hc
    where
      M : Biadditive (mul k)
      M = mul_sums k

      at_power : (l : ℕ) → l < k → (x y : ℕ) → x < 2 ^ k → y < 2 ^ k → mul k (mul k x y) (2 ^ l) ≡ mul k x (mul k y (2 ^ l))
      at_power l h =
          agree_twice (λ x y. mul k (mul k x y) (2 ^ l)) (λ x y. mul k x (mul k y (2 ^ l)))
          (record {
            left = λ y. after (λ x. mul k x y) (λ x. mul k x (2 ^ l)) (M.left y) (M.left (2 ^ l));
            right = λ x. after (mul k x) (λ y. mul k y (2 ^ l)) (M.right x) (M.left (2 ^ l));
          })
          (record {
            left = λ y. M.left (mul k y (2 ^ l));
            right = λ x. after (λ y. mul k y (2 ^ l)) (mul k x) (M.left (2 ^ l)) (M.right x);
          })
          k
          (λ i j hi hj. eqb→eq _ _ (at_pair k (associates_at k l) (at_below k (λ l. at_pairs k (associates_at k l)) (at_entry associates k degrees all_associate listed) l h) i j hi hj))

  pub ring_laws : RingLaws (binary k)
  ring_laws = record {
    two_codes = two_codes;
    sum_below = λ a b. mod-lt (bit_xor a b) some_code;
    negative_below = λ a. mod-lt a some_code;
    product_below = λ a b. mul_below (a % 2 ^ k) (b % 2 ^ k) (rest a) (rest b);
    sum_assoc = λ a b c. simp (xor_mod, mod-mod, xor_assoc);
    sum_comm = λ a b. ap (λ x. x % 2 ^ k) (xor_comm a b);
    sum_zero = λ a. ap (λ x. x % 2 ^ k) (xor_zero_r a);
    sum_negative = λ a. simp (xor_mod, mod-mod, xor_self);
    product_assoc = λ a b c.
        ap (λ x. mul k x (c % 2 ^ k)) (code (mul_below (a % 2 ^ k) (b % 2 ^ k) (rest a) (rest b)))
        ∙ mul_assoc (a % 2 ^ k) (b % 2 ^ k) (c % 2 ^ k) (rest a) (rest b) (rest c)
        ∙ ap (mul k (a % 2 ^ k)) (sym (code (mul_below (b % 2 ^ k) (c % 2 ^ k) (rest b) (rest c))));
    product_comm = λ a b. mul_comm (a % 2 ^ k) (b % 2 ^ k) (rest a) (rest b);
    product_one = λ a. ap (mul k (a % 2 ^ k)) (code two_codes) ∙ mul-one (a % 2 ^ k) (rest a);
    distributes = λ a b c.
        ap (mul k (a % 2 ^ k)) (mod-mod (bit_xor b c) (2 ^ k) ∙ xor_mod b c k) ∙ (mul_sums k).right (a % 2 ^ k) (b % 2 ^ k) (c % 2 ^ k)
        ∙ sym (code (xor_lt k _ _ (mul_below (a % 2 ^ k) (b % 2 ^ k) (rest a) (rest b)) (mul_below (a % 2 ^ k) (c % 2 ^ k) (rest a) (rest c))));
  }
    where
      rest : (a : ℕ) → a % 2 ^ k < 2 ^ k
      rest a = mod-lt a some_code

      code : {a : ℕ} → a < 2 ^ k → a % 2 ^ k ≡ a
      code h = mod-eq_of_lt h
