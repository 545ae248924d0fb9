-- The value of a monomial at a point, factor by factor.
use Rattle.std.proofs.Common.{◌≡◌, ℕ, zero, suc, ◌+◌, ◌*◌, ◌<◌, ◌≤◌, List, length, get_or, sym, refl, ap, ◌∙◌, ap₂, mul-le-mul_right, mod-eq_of_lt, arith}
use Rattle.std.proofs.lemmas.List.{get_or_past, get_or_default}
use Rattle.fields.specs.Arithmetic.{Arithmetic, RingLaws}
use Rattle.fields.specs.Powers.{power}
use Rattle.fields.proofs.Squaring.{one_power, power_one}
use Rattle.monomials.specs.Monomials.{mono, exponent}
use Rattle.monomials.specs.MonomialsLemmas.{exponent_mono}
use Rattle.polynomials.specs.Points.{coordinate, monomial_value}

-- the product of the first n powers of coordinates
abbrev pub value_upto : Arithmetic → List ℕ → List ℕ → ℕ → ℕ
value_upto A point es zero = 1
value_upto A point es (suc n) = A.product (value_upto A point es n) (power A (get_or point n 0) (get_or es n 0))

module _ (A : Arithmetic) (L : RingLaws A) (point es : List ℕ) where
  infixl 70 ◌⊗◌
  open A use {product as ◌⊗◌, order as q}

  -- the same, where an absent coordinate counts as 1
  abbrev factors_upto : ℕ → ℕ
  factors_upto zero = 1
  factors_upto (suc n) = factors_upto n ⊗ power A (coordinate point n) (exponent (mono es) n)

  factors_below : (n : ℕ) → factors_upto n < q
  factors_below zero = L.two_codes
  factors_below (suc n) = L.product_below (factors_upto n) (power A (coordinate point n) (exponent (mono es) n))

  -- up to the last coordinate there is no difference
  present : (n : ℕ) → n ≤ length point → n ≤ 4 → value_upto A point es n ≡ factors_upto n
  present zero h l = refl
  present (suc n) h l =
      ap (λ x. x ⊗ power A (get_or point n 0) (get_or es n 0)) (present n (omega arith) (omega arith)) ∙
      ap₂ (λ c e. factors_upto n ⊗ power A c e) (get_or_default point n 0 1 (omega arith)) (sym (exponent_mono es n (omega arith)))

  -- an absent coordinate adds no factor
  absent : (n : ℕ) → length point ≤ n → factors_upto (suc n) ≡ factors_upto n
  absent n h =
      ap (λ x. factors_upto n ⊗ power A x (exponent (mono es) n)) (get_or_past point n 1 h) ∙
      ap (λ x. factors_upto n ⊗ x) (power_one A L (exponent (mono es) n)) ∙
      L.product_one (factors_upto n) ∙ mod-eq_of_lt (factors_below n)

  -- the four factors are the value
  four : factors_upto 4 ≡ monomial_value A point (mono es)
  four =
      ap (λ x. x ⊗ power A (coordinate point 1) (get_or es 1 0) ⊗ power A (coordinate point 2) (get_or es 2 0) ⊗ power A (coordinate point 3) (get_or es 3 0))
      (one_power A L (coordinate point 0) (get_or es 0 0))

  -- and so are those of the point's coordinates
  up_to_four : (absences n : ℕ) → absences + n ≡ 4 → length point ≤ n → factors_upto n ≡ monomial_value A point (mono es)
  up_to_four zero n e h = let all : n ≡ 4 = omega arith in ap factors_upto all ∙ four
  up_to_four (suc absences) n e h = sym (absent n h) ∙ up_to_four absences (suc n) (omega arith) (omega arith)

  pub all_factors : (absences n : ℕ) → absences + n ≡ 4 → n ≡ length point → value_upto A point es n ≡ monomial_value A point (mono es)
  all_factors absences n e h = present n (omega arith) (omega arith) ∙ up_to_four absences n e (omega arith)

-- the coordinates of a point stand among those of the points
pub point_within : (m count k : ℕ) (coordinates : List ℕ) → length coordinates ≡ m * count → k < count → k * m + m ≤ length coordinates
point_within m count k coordinates e h = omega (arith, mul-le-mul_right m h)
