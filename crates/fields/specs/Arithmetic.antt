-- What a field of codes is: its order, and a sum, a negative and a product over codes.
-- A code at or above the order counts as its remainder by the order, so the laws hold of every number.
use Rattle.std.specs.Prelude.{◌≡◌, ℕ, zero, suc, ◌%◌, ◌<◌, Some, None, Option, ◌≢◌}

pub record Arithmetic : Type 0 where
  pub order : ℕ
  pub sum : ℕ → ℕ → ℕ
  pub negative : ℕ → ℕ
  pub product : ℕ → ℕ → ℕ

-- the laws of a commutative ring with 0 and 1
pub record RingLaws (A : Arithmetic) : Type 0 where
  pub two_codes : 1 < A.order
  pub sum_below : (a b : ℕ) → A.sum a b < A.order
  pub negative_below : (a : ℕ) → A.negative a < A.order
  pub product_below : (a b : ℕ) → A.product a b < A.order
  pub sum_assoc : (a b c : ℕ) → A.sum (A.sum a b) c ≡ A.sum a (A.sum b c)
  pub sum_comm : (a b : ℕ) → A.sum a b ≡ A.sum b a
  pub sum_zero : (a : ℕ) → A.sum a 0 ≡ a % A.order
  pub sum_negative : (a : ℕ) → A.sum a (A.negative a) ≡ 0
  pub product_assoc : (a b c : ℕ) → A.product (A.product a b) c ≡ A.product a (A.product b c)
  pub product_comm : (a b : ℕ) → A.product a b ≡ A.product b a
  pub product_one : (a : ℕ) → A.product a 1 ≡ a % A.order
  pub distributes : (a b c : ℕ) → A.product a (A.sum b c) ≡ A.sum (A.product a b) (A.product a c)

-- the laws of a field: every non-zero code has an inverse
pub record FieldLaws (A : Arithmetic) : Type 0 where
  pub ring : RingLaws A
  pub inverse : (a : ℕ) → (a % A.order ≢ 0) → (b : ℕ) × (A.product a b ≡ 1)

-- the inverse of a code: absent for zero, else the code below the order that takes it to 1
abbrev pub InverseOf : Arithmetic → ℕ → Option ℕ → Type 0
InverseOf A a None = a % A.order ≡ 0
InverseOf A a (Some b) = (A.product a b ≡ 1) × (b < A.order)

-- the sum of f at 0, 1, .. below n
abbrev pub total : Arithmetic → ℕ → (ℕ → ℕ) → ℕ
total A zero f = 0
total A (suc n) f = A.sum (total A n f) (f n)
