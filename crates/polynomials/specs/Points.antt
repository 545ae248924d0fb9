-- A point set: points by their coordinates, and the values of polynomials there.
use Rattle.std.specs.Prelude.{◌≡◌, ℕ, ◌*◌, ◌%◌, ◌<◌, cond, ◌↔◌, List, [], ◌∷◌, ◌++◌, length, take, drop, nat_lt, slice_index_or}
use Rattle.fields.specs.Arithmetic.{Arithmetic, RingLaws}
use Rattle.fields.specs.Powers.{power}
use Rattle.monomials.specs.Monomials.{Mono, one, variable}
use Rattle.polynomials.specs.Polynomials.{Poly, moved_by, InVariables}
use Rattle.polynomials.specs.Subjects.{SubjectMeaning, Annihilates}

-- the coordinate of a point for a variable, counted from 0; an absent coordinate counts as 1
abbrev pub coordinate : List ℕ → ℕ → ℕ
coordinate point v = slice_index_or point v 1

-- the point of a number, counted from 0, of those with m coordinates that stand point after point
abbrev pub point_at : ℕ → List ℕ → ℕ → List ℕ
point_at m coordinates k = take m (drop (k * m) coordinates)

module _ (A : Arithmetic) (point : List ℕ) where
  infixl 60 ◌⊕◌
  infixl 70 ◌⊗◌
  open A use {sum as ◌⊕◌, product as ◌⊗◌}

  -- the value of a monomial at a point: the product of the powers of the coordinates
  abbrev pub monomial_value : Mono → ℕ
  monomial_value a =
      power A (coordinate point 0) a.e0 ⊗ power A (coordinate point 1) a.e1 ⊗
      power A (coordinate point 2) a.e2 ⊗ power A (coordinate point 3) a.e3

  -- the value of a polynomial at a point: the codes of its terms times the values of their monomials, added up
  abbrev pub polynomial_value : Poly → ℕ
  polynomial_value [] = 0
  polynomial_value (t ∷ ts) = t.code ⊗ monomial_value t.at ⊕ polynomial_value ts

-- to evaluate polynomials at a point: a sum goes to the sum, a constant to its code, and a variable as a factor to its coordinate as a factor
pub record Evaluates (A : Arithmetic) (point : List ℕ) (value : Poly → ℕ) : Type 0 where
  pub sums : (p r : Poly) → value (p ++ r) ≡ A.sum (value p) (value r)
  pub constant : (c : ℕ) → value (record { at = one; code = c } ∷ []) ≡ c % A.order
  pub factor : (v : ℕ) → v < length point → (p : Poly) → value (moved_by (variable v) p) ≡ A.product (coordinate point v) (value p)

-- the value evaluates, and whatever evaluates gives the value, where the polynomial keeps to the point's variables
pub record OnlyEvaluation (A : Arithmetic) (point : List ℕ) : Type 0 where
  pub evaluates : Evaluates A point (polynomial_value A point)
  pub only : (value : Poly → ℕ) → Evaluates A point value → (p : Poly) → InVariables (length point) p → value p ≡ polynomial_value A point p

-- the value at each point is the only evaluation there, under every field
abbrev pub ValuesEvaluate : ℕ → ℕ → List ℕ → Type 0
ValuesEvaluate m count coordinates = (A : Arithmetic) → RingLaws A → (k : ℕ) → k < count → OnlyEvaluation A (point_at m coordinates k)

-- the points as a subject: the image of a monomial at a position is its value at the point there
abbrev pub points_meaning : ℕ → ℕ → List ℕ → SubjectMeaning
points_meaning m count coordinates = record {
  variables = m;
  width = count;
  image = λ A a k. cond (nat_lt k count) (monomial_value A (point_at m coordinates k) a) 0;
}

-- the value of a polynomial is zero at every point
abbrev pub Vanishes : Arithmetic → ℕ → ℕ → List ℕ → Poly → Type 0
Vanishes A m count coordinates p = (k : ℕ) → k < count → polynomial_value A (point_at m coordinates k) p ≡ 0

-- the annihilators of a point set are exactly the polynomials that vanish at every point, under every field
abbrev pub AnnihilatorsVanish : ℕ → ℕ → List ℕ → Type 0
AnnihilatorsVanish m count coordinates = (A : Arithmetic) → RingLaws A → (p : Poly) →
    Annihilates (points_meaning m count coordinates) A p ↔ Vanishes A m count coordinates p
