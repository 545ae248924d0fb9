-- A point set is a subject, and its annihilators are the polynomials that vanish at every point.
use Rattle.std.proofs.Common.{◌≡◌, ℕ, zero, suc, ◌*◌, ◌%◌, ◌<◌, ◌≤◌, ltb, List, [], ◌∷◌, ◌++◌, length, drop, sym, refl, ap, ◌∙◌, subst, ap₂, add-zero, mod-lt, mod-eq_of_lt, add-one, arith, length-take}
use mathlib.Core.Path.{fun_ext}
use native.Mathlib.Nat.{zero-mod, min-le_left}
use Rattle.std.proofs.lemmas.Bool.{lt-ltb, le-ltb, cond-true, cond-false, cond_both}
use Rattle.fields.specs.Arithmetic.{Arithmetic, RingLaws}
use Rattle.fields.proofs.Rings as rings
use Rattle.fields.proofs.Squaring.{one_power}
use Rattle.monomials.specs.Monomials.{Mono, one, times, variable, Within}
use Rattle.monomials.specs.MonomialsLemmas.{by_variables}
use Rattle.polynomials.specs.Points.{coordinate, point_at, monomial_value, polynomial_value, points_meaning, Evaluates, OnlyEvaluation, ValuesEvaluate, AnnihilatorsVanish}
use Rattle.polynomials.specs.Polynomials.{Poly, applied, moved_by, InVariables}
use Rattle.polynomials.specs.Subjects.{SubjectLaws, image_of}
use Rattle.polynomials.proofs.Polynomials.{applied_below, applied_moved, applied_times}
use Rattle.polynomials.proofs.Subjects.{closed_by_steps}

-- the value of a polynomial is what it gives on the values of monomials
value_applied : (A : Arithmetic) (point : List ℕ) (p : Poly) → polynomial_value A point p ≡ applied A (monomial_value A point) p
value_applied A point [] = refl
value_applied A point (t ∷ ts) = ap (A.sum (A.product t.code (monomial_value A point t.at))) (value_applied A point ts)

module _ (A : Arithmetic) (L : RingLaws A) where
  infixl 60 ◌⊕◌
  infixl 70 ◌⊗◌
  open A use {sum as ◌⊕◌, product as ◌⊗◌, order as q}

  -- four factors, one of which has a factor of its own
  first_factor : (x a b c d : ℕ) → x ⊗ a ⊗ b ⊗ c ⊗ d ≡ x ⊗ (a ⊗ b ⊗ c ⊗ d)
  first_factor x a b c d = simp L.product_assoc

  second_factor : (x a b c d : ℕ) → a ⊗ (x ⊗ b) ⊗ c ⊗ d ≡ x ⊗ (a ⊗ b ⊗ c ⊗ d)
  second_factor x a b c d = ap (λ y. y ⊗ c ⊗ d) (rings.product_turn A L a x b) ∙ simp L.product_assoc

  third_factor : (x a b c d : ℕ) → a ⊗ b ⊗ (x ⊗ c) ⊗ d ≡ x ⊗ (a ⊗ b ⊗ c ⊗ d)
  third_factor x a b c d = ap (λ y. y ⊗ d) (rings.product_turn A L (a ⊗ b) x c) ∙ simp L.product_assoc

  fourth_factor : (x a b c d : ℕ) → a ⊗ b ⊗ c ⊗ (x ⊗ d) ≡ x ⊗ (a ⊗ b ⊗ c ⊗ d)
  fourth_factor x a b c d = rings.product_turn A L (a ⊗ b ⊗ c) x d

  -- a variable more is its coordinate as a factor
  pub value_step : (point : List ℕ) (a : Mono) (v : ℕ) → v < 4 →
      monomial_value A point (times a (variable v)) ≡ coordinate point v ⊗ monomial_value A point a
  value_step point a zero h = simp (add-zero, add-one) (first_factor _ _ _ _ _)
  value_step point a (suc zero) h = simp (add-zero, add-one) (second_factor _ _ _ _ _)
  value_step point a (suc (suc zero)) h = simp (add-zero, add-one) (third_factor _ _ _ _ _)
  value_step point a (suc (suc (suc zero))) h = simp (add-zero, add-one) (fourth_factor _ _ _ _ _)
  value_step point a (suc (suc (suc (suc v)))) h = absurd (omega arith)

  -- a value is a code
  pub value_below : (point : List ℕ) (a : Mono) → monomial_value A point a < q
  value_below point a = L.product_below _ _

  -- the value of 1 is 1
  pub value_one : (point : List ℕ) → monomial_value A point one ≡ 1
  value_one point = let e : 1 ⊗ 1 ≡ 1 = one_power A L 1 0 in ap (λ x. x ⊗ 1 ⊗ 1) e ∙ ap (λ x. x ⊗ 1) e ∙ e

  -- a constant is its code
  pub value_constant : (point : List ℕ) (c : ℕ) → c ⊗ monomial_value A point one ≡ c % q
  value_constant point c = ap (λ x. c ⊗ x) (value_one point) ∙ L.product_one c

  module _ (point : List ℕ) (few : length point ≤ 4) where
    -- sums of polynomials
    value_sums : (p r : Poly) → polynomial_value A point (p ++ r) ≡ polynomial_value A point p ⊕ polynomial_value A point r
    value_sums [] r = sym (rings.zero_plus A L (subst (λ x. x < q) (sym (value_applied A point r)) (applied_below A L (monomial_value A point) r)))
    value_sums (t ∷ ts) r =
        let first = t.code ⊗ monomial_value A point t.at in
        ap (λ x. first ⊕ x) (value_sums ts r) ∙ sym (L.sum_assoc first (polynomial_value A point ts) (polynomial_value A point r))

    -- a variable as a factor
    value_factor : (v : ℕ) → v < length point → (p : Poly) → polynomial_value A point (moved_by (variable v) p) ≡ coordinate point v ⊗ polynomial_value A point p
    value_factor v h p =
        value_applied A point (moved_by (variable v) p) ∙
        applied_moved A (monomial_value A point) (variable v) p ∙
        ap (λ f. applied A f p) (fun_ext (λ a. value_step point a v (omega arith))) ∙
        applied_times A L (coordinate point v) (monomial_value A point) p ∙
        ap (λ x. coordinate point v ⊗ x) (sym (value_applied A point p))

    module _ (value : Poly → ℕ) (E : Evaluates A point value) where
      -- the empty sum goes to 0
      nothing : value [] ≡ 0
      nothing =
          let below : value [] < q = subst (λ x. x < q) (sym (E.sums [] [])) (L.sum_below (value []) (value [])) in
          sym (mod-eq_of_lt below) ∙ rings.cancel A L (value []) (value []) 0 (sym (E.sums [] []) ∙ sym (rings.plus_zero A L below)) ∙ zero-mod q

      -- a term goes to its code times its monomial's value, by induction over the monomial
      single : (c : ℕ) (a : Mono) → Within (length point) a → value (record { at = a; code = c } ∷ []) ≡ c ⊗ monomial_value A point a
      single c = by_variables (length point) (λ a. value (record { at = a; code = c } ∷ []) ≡ c ⊗ monomial_value A point a)
          (E.constant c ∙ sym (value_constant point c))
          (λ a v h w ih.
          E.factor v h (record { at = a; code = c } ∷ []) ∙
          ap (λ x. coordinate point v ⊗ x) ih ∙
          rings.product_turn A L (coordinate point v) c (monomial_value A point a) ∙
          ap (λ x. c ⊗ x) (sym (value_step point a v (omega arith))))

      agrees : (p : Poly) → InVariables (length point) p → value p ≡ polynomial_value A point p
      agrees [] u = nothing
      agrees (t ∷ ts) u = E.sums (t ∷ []) ts ∙ ap₂ ◌⊕◌ (single t.code t.at u.0) (agrees ts u.1)

    -- the value is the only evaluation
    pub only_evaluation : OnlyEvaluation A point
    only_evaluation = record {
      evaluates = record {
        sums = value_sums;
        constant = λ c. ap (λ x. x ⊕ 0) (value_constant point c) ∙ rings.plus_zero A L (mod-lt c (rings.some_code A L));
        factor = value_factor;
      };
      only = agrees;
    }

module _ (m count : ℕ) (coordinates : List ℕ) where
  -- an image inside the width
  image_inside : (A : Arithmetic) (a : Mono) (k : ℕ) → k < count → (points_meaning m count coordinates).image A a k ≡ monomial_value A (point_at m coordinates k) a
  image_inside A a k h = cond-true (ltb k count) (monomial_value A (point_at m coordinates k) a) 0 (lt-ltb k count h)

  -- the laws
  pub points_laws : 1 ≤ m → m ≤ 4 → count ≤ 64 → SubjectLaws (points_meaning m count coordinates)
  points_laws some few narrow = record {
    some_variable = some;
    four_variables = few;
    narrow = narrow;
    below = λ A L a k. cond_both (ltb k count) (monomial_value A (point_at m coordinates k) a) 0 (λ x. x < A.order)
        (λ _. value_below A L.ring (point_at m coordinates k) a) (λ _. rings.some_code A L.ring);
    past = λ A L a k h. cond-false (ltb k count) (monomial_value A (point_at m coordinates k) a) 0 (le-ltb k count h);
    closed = λ A L p u h v l. closed_by_steps (points_meaning m count coordinates) A L.ring v
        (λ k b. (
          coordinate (point_at m coordinates k) v,
          k,
          b,
          λ a.
              image_inside A (times a (variable v)) k b ∙
              value_step A L.ring (point_at m coordinates k) a v (omega arith) ∙
              ap (A.product (coordinate (point_at m coordinates k) v)) (sym (image_inside A a k b)),
        ))
        p h;
  }

  -- the image of a polynomial at a point is its value there
  pub image_value : (A : Arithmetic) (p : Poly) (k : ℕ) → k < count → image_of (points_meaning m count coordinates) A p k ≡ polynomial_value A (point_at m coordinates k) p
  image_value A p k h = ap (λ f. applied A f p) (fun_ext (λ a. image_inside A a k h)) ∙ sym (value_applied A (point_at m coordinates k) p)

  -- past the points it is 0
  pub image_past : (A : Arithmetic) → RingLaws A → (p : Poly) (k : ℕ) → count ≤ k → image_of (points_meaning m count coordinates) A p k ≡ 0
  image_past A L p k h =
      ap (λ f. applied A f p) (fun_ext (λ a. cond-false (ltb k count) (monomial_value A (point_at m coordinates k) a) 0 (le-ltb k count h) ∙ sym (rings.zero_product A L 0))) ∙
      applied_times A L 0 (λ _. 0) p ∙
      rings.zero_product A L (applied A (λ _. 0) p)

  pub values_evaluate : m ≤ 4 → ValuesEvaluate m count coordinates
  values_evaluate few A L k h = only_evaluation A L (point_at m coordinates k) (omega (arith, length-take m (drop (k * m) coordinates), min-le_left m (length (drop (k * m) coordinates))))

  pub annihilators_vanish : AnnihilatorsVanish m count coordinates
  annihilators_vanish A L p = (λ h k l. sym (image_value A p k l) ∙ h k l, λ h k l. image_value A p k l ∙ h k l)
