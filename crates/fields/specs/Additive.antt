-- Additive functions of polynomials over the bits: what they give at the powers of z settles them.
use Rattle.std.specs.Prelude.{◌≡◌, ℕ, zero, suc, ◌+◌, ◌-◌, ◌*◌, ◌/◌, ◌%◌, ◌^◌, ◌<◌, bit_xor, refl}
use Rattle.std.proofs.Common.{sym, ◌∙◌, ap, ap₂, subst, add-zero, mul-zero, mul-one, one-mul, mod-lt, arith, lit<, pow_pos}
use Rattle.std.proofs.Math.Decide.{dec_lt}
use Rattle.std.specs.Int.Bits.{xor_zero_l, xor_zero_r, xor_assoc, xor_self, xor_shifted}
use Rattle.std.proofs.lemmas.Nat.{xor_comm, xor_block, xor_shr, xor_mod, xor_lt}
use Rattle.fields.specs.Binaries.{coefficient, times, remainder}

-- a sum goes to the sum
abbrev pub Additive : (ℕ → ℕ) → Type 0
Additive f = (x y : ℕ) → f (bit_xor x y) ≡ bit_xor (f x) (f y)

-- an additive function gives 0 at 0
pub additive_zero : (f : ℕ → ℕ) → Additive f → f 0 ≡ 0
additive_zero f h = h 0 0 ∙ xor_self (f 0)

-- what holds of 0 and of each power of z below z ^ n, and is kept by sums, holds of every polynomial of such powers
pub from_powers : (P : ℕ → Type 0) → P 0 → ((x y : ℕ) → P x → P y → P (bit_xor x y)) →
    (n : ℕ) → ((i : ℕ) → i < n → P (2 ^ i)) → (x : ℕ) → x < 2 ^ n → P x
from_powers P none sums zero at x l = let z : x ≡ 0 = omega arith in rw z none
from_powers P none sums (suc n) at x l =
    let below : (y : ℕ) → y < 2 ^ n → P y = from_powers P none sums n (λ i h. at i (omega arith)) in
    elim (dec_lt x (2 ^ n)) [
      | yes p ↦ below x p
      | no p ↦ subst P (parts p) (sums (2 ^ n) (x - 2 ^ n) (at n (omega arith)) (below (x - 2 ^ n) (omega arith)))
    ]
  where
    parts : (x < 2 ^ n → ⊥) → bit_xor (2 ^ n) (x - 2 ^ n) ≡ x
    parts p = ap (λ y. bit_xor y (x - 2 ^ n)) (sym (one-mul (2 ^ n))) ∙ xor_shifted 1 n (x - 2 ^ n) (omega arith) ∙ omega arith

-- additive functions that agree at the powers of z agree
pub agree : (f g : ℕ → ℕ) → Additive f → Additive g → (n : ℕ) → ((i : ℕ) → i < n → f (2 ^ i) ≡ g (2 ^ i)) → (x : ℕ) → x < 2 ^ n → f x ≡ g x
agree f g F G = from_powers (λ x. f x ≡ g x) (additive_zero f F ∙ sym (additive_zero g G)) (λ x y e d. F x y ∙ ap₂ bit_xor e d ∙ sym (G x y))

-- an additive function that gives codes at the powers of z gives codes
pub closed : (k : ℕ) (f : ℕ → ℕ) → Additive f → (n : ℕ) → ((i : ℕ) → i < n → f (2 ^ i) < 2 ^ k) → (x : ℕ) → x < 2 ^ n → f x < 2 ^ k
closed k f F = from_powers (λ x. f x < 2 ^ k) (rw (additive_zero f F) (pow_pos k)) (λ x y h l. rw (F x y) (xor_lt k (f x) (f y) h l))

-- one after the other
pub after : (f g : ℕ → ℕ) → Additive f → Additive g → Additive (λ x. g (f x))
after f g F G x y = ap g (F x y) ∙ G (f x) (f y)

-- the sum of two
pub plus : (f g : ℕ → ℕ) → Additive f → Additive g → Additive (λ x. bit_xor (f x) (g x))
plus f g F G x y = ap₂ bit_xor (F x y) (G x y) ∙ four (f x) (f y) (g x) (g y)
  where
    four : (a b c d : ℕ) → bit_xor (bit_xor a b) (bit_xor c d) ≡ bit_xor (bit_xor a c) (bit_xor b d)
    four a b c d =
        xor_assoc a b (bit_xor c d) ∙ ap (bit_xor a) (sym (xor_assoc b c d) ∙ ap (λ x. bit_xor x d) (xor_comm b c) ∙ xor_assoc c b d)
        ∙ sym (xor_assoc a c (bit_xor b d))

-- additive in each of two arguments
pub record Biadditive (f : ℕ → ℕ → ℕ) : Type 0 where
  pub left : (b : ℕ) → Additive (λ a. f a b)
  pub right : (a : ℕ) → Additive (f a)

-- functions additive in each argument that agree at the pairs of powers of z agree
pub agree_twice : (f g : ℕ → ℕ → ℕ) → Biadditive f → Biadditive g → (n : ℕ) →
    ((i j : ℕ) → i < n → j < n → f (2 ^ i) (2 ^ j) ≡ g (2 ^ i) (2 ^ j)) → (a b : ℕ) → a < 2 ^ n → b < 2 ^ n → f a b ≡ g a b
agree_twice f g F G n at a b h l =
    agree (λ x. f x b) (λ x. g x b) (F.left b) (G.left b) n
    (λ i hi. agree (f (2 ^ i)) (g (2 ^ i)) (F.right (2 ^ i)) (G.right (2 ^ i)) n (λ j hj. at i j hi hj) b l) a h

-- and those that give codes there give codes
pub closed_twice : (k : ℕ) (f : ℕ → ℕ → ℕ) → Biadditive f → (n : ℕ) →
    ((i j : ℕ) → i < n → j < n → f (2 ^ i) (2 ^ j) < 2 ^ k) → (a b : ℕ) → a < 2 ^ n → b < 2 ^ n → f a b < 2 ^ k
closed_twice k f F n at a b h l =
    closed k (λ x. f x b) (F.left b) n (λ i hi. closed k (f (2 ^ i)) (F.right (2 ^ i)) n (λ j hj. at i j hi hj) b l) a h

-- times a power of z
pub by_power : (i : ℕ) → Additive (λ x. x * 2 ^ i)
by_power i x y =
    sym (add-zero (bit_xor x y * 2 ^ i)) ∙ sym (xor_block i x y 0 0 (pow_pos i) (pow_pos i)) ∙ ap₂ bit_xor (add-zero (x * 2 ^ i)) (add-zero (y * 2 ^ i))

-- times a coefficient
pub by_digit : (c : ℕ) → c < 2 → Additive (λ x. x * c)
by_digit zero h x y = simp mul-zero
by_digit (suc zero) h x y = simp mul-one
by_digit (suc (suc c)) h x y = absurd (omega arith)

-- a sum of coefficients times a polynomial
digits_times : (p b c : ℕ) → b < 2 → c < 2 → p * bit_xor b c ≡ bit_xor (p * b) (p * c)
digits_times p zero c h l = simp (xor_zero_l, mul-zero)
digits_times p (suc zero) zero h l = simp (mul-zero, xor_zero_r)
digits_times p (suc zero) (suc zero) h l = mul-zero p ∙ sym (xor_self (p * 1))
digits_times p (suc zero) (suc (suc c)) h l = absurd (omega arith)
digits_times p (suc (suc b)) c h l = absurd (omega arith)

-- a coefficient is 0 or 1
pub digit : (i p : ℕ) → coefficient i p < 2
digit i p = mod-lt (p / 2 ^ i) (lit< tt)

-- p where z ^ i stands, else 0
pub at_term : (i p : ℕ) → Additive (λ x. p * coefficient i x)
at_term i p x y =
    ap (λ c. p * (c % 2)) (xor_shr x y i) ∙ ap (λ c. p * c) (xor_mod (x / 2 ^ i) (y / 2 ^ i) 1)
    ∙ digits_times p (coefficient i x) (coefficient i y) (digit i x) (digit i y)

-- the product of polynomials is additive on the left
pub times_left : (n b : ℕ) → Additive (λ a. times n a b)
times_left zero b = λ x y. refl
times_left (suc i) b = plus (λ a. times i a b) (λ a. a * 2 ^ i * coefficient i b) (times_left i b)
    (after (λ a. a * 2 ^ i) (λ a. a * coefficient i b) (by_power i) (by_digit (coefficient i b) (digit i b)))

-- and on the right
pub times_right : (n a : ℕ) → Additive (times n a)
times_right zero a = λ x y. refl
times_right (suc i) a = plus (times i a) (λ b. a * 2 ^ i * coefficient i b) (times_right i a) (at_term i (a * 2 ^ i))

-- the remainder is additive
pub remainder_sum : (k m n : ℕ) → Additive (remainder k m n)
remainder_sum k m zero = λ x y. refl
remainder_sum k m (suc i) = after (λ p. bit_xor p (m * 2 ^ i * coefficient (k + i) p)) (remainder k m i)
    (plus (λ p. p) (λ p. m * 2 ^ i * coefficient (k + i) p) (λ x y. refl) (at_term (k + i) (m * 2 ^ i))) (remainder_sum k m i)
