-- A polynomial under a function of monomials is linear in both, and its coefficients decide it.
use Rattle.std.proofs.Common.{◌≡◌, ℕ, zero, suc, ◌<◌, ◌≤◌, cond, ◌⊎◌, [], ◌∷◌, ◌++◌, length, sym, refl, ap, ◌∙◌, subst, ap₂, inl, inr, arith}
use Rattle.std.proofs.lemmas.Bool.{cond-true, cond-false, cond_both}
use Rattle.fields.specs.Arithmetic.{Arithmetic, RingLaws, total}
use Rattle.fields.proofs.Rings as rings
use Rattle.fields.proofs.Totals as totals
use Rattle.monomials.specs.Monomials.{Mono, same}
use Rattle.monomials.specs.MonomialsLemmas.{cases_mono, same_self}
use Rattle.polynomials.specs.Polynomials.{Poly, applied, indicator, coefficient, Each}
use Rattle.polynomials.proofs.Polynomials as polynomials

-- 1 at its own monomial
pub indicator_own : (a : Mono) → indicator a a ≡ 1
indicator_own a = cond-true (same a a) 1 0 (same_self a)

-- 0 at any other
pub indicator_other : (a b : Mono) → (a ≡ b → ⊥) → indicator a b ≡ 0
indicator_other a b d = elim (cases_mono a b) [ inl s ↦ absurd (d s.1) | inr s ↦ cond-false (same a b) 1 0 s.0 ]

-- at most 1
pub indicator_small : (a b : Mono) → indicator a b ≤ 1
indicator_small a b = cond_both (same a b) 1 0 (λ x. x ≤ 1) (λ _. omega arith) (λ _. omega arith)

-- every code multiplied
abbrev pub scaled : Arithmetic → ℕ → Poly → Poly
scaled A c [] = []
scaled A c (t ∷ ts) = record { at = t.at; code = A.product c t.code } ∷ scaled A c ts

-- the terms elsewhere than at a monomial
abbrev pub without : Mono → Poly → Poly
without a [] = []
without a (t ∷ ts) = cond (same a t.at) (without a ts) (t ∷ without a ts)

-- functions that agree on the terms' monomials give the same
pub applied_same : (A : Arithmetic) (P : Mono → Type 0) (f g : Mono → ℕ) → ((a : Mono) → P a → f a ≡ g a) →
    (p : Poly) → Each P p → applied A f p ≡ applied A g p
applied_same A P f g h [] u = refl
applied_same A P f g h (t ∷ ts) u = ap₂ (λ x y. A.sum (A.product t.code x) y) (h t.at u.0) (applied_same A P f g h ts u.1)

module _ (A : Arithmetic) (L : RingLaws A) where
  infixl 60 ◌⊕◌
  infixl 70 ◌⊗◌
  open A use {sum as ◌⊕◌, product as ◌⊗◌, order as q}

  -- polynomials appended add up
  pub applied_append : (f : Mono → ℕ) (p r : Poly) → applied A f (p ++ r) ≡ applied A f p ⊕ applied A f r
  applied_append f [] r = sym (rings.zero_plus A L (polynomials.applied_below A L f r))
  applied_append f (t ∷ ts) r =
      ap (λ x. t.code ⊗ f t.at ⊕ x) (applied_append f ts r) ∙ sym (L.sum_assoc (t.code ⊗ f t.at) (applied A f ts) (applied A f r))

  -- a factor of every code
  pub applied_scaled : (f : Mono → ℕ) (c : ℕ) (p : Poly) → applied A f (scaled A c p) ≡ c ⊗ applied A f p
  applied_scaled f c [] = sym (rings.product_zero A L c)
  applied_scaled f c (t ∷ ts) =
      ap₂ ◌⊕◌ (L.product_assoc c t.code (f t.at)) (applied_scaled f c ts) ∙ sym (L.distributes c (t.code ⊗ f t.at) (applied A f ts))

  -- functions added up
  pub applied_plus : (f g : Mono → ℕ) (p : Poly) → applied A (λ a. f a ⊕ g a) p ≡ applied A f p ⊕ applied A g p
  applied_plus f g [] = sym (rings.plus_zero A L (rings.some_code A L))
  applied_plus f g (t ∷ ts) =
      ap₂ ◌⊕◌ (L.distributes t.code (f t.at) (g t.at)) (applied_plus f g ts) ∙
      rings.four A L (t.code ⊗ f t.at) (t.code ⊗ g t.at) (applied A f ts) (applied A g ts)

  -- a sum of functions, each with a factor
  pub applied_total : (n : ℕ) (d : Mono → ℕ → ℕ) (s : ℕ → ℕ) (p : Poly) →
      applied A (λ a. total A n (λ j. d a j ⊗ s j)) p ≡ total A n (λ j. applied A (λ a. d a j) p ⊗ s j)
  applied_total n d s [] = sym (totals.total_zero A L n (λ j. 0 ⊗ s j) (λ k h. rings.zero_product A L (s k)))
  applied_total n d s (t ∷ ts) =
      ap₂ ◌⊕◌
      (sym (totals.total_product A L n t.code (λ j. d t.at j ⊗ s j)))
      (applied_total n d s ts) ∙
      sym (totals.total_sum A L n (λ j. t.code ⊗ (d t.at j ⊗ s j)) (λ j. applied A (λ a. d a j) ts ⊗ s j)) ∙
      totals.total_same A n _ _ (λ j h. simp (rings.spread A L, L.product_assoc))

  -- the terms at one monomial, and the others
  pub apart : (f : Mono → ℕ) (a : Mono) (p : Poly) → applied A f p ≡ coefficient A p a ⊗ f a ⊕ applied A f (without a p)
  apart f a [] = simp (rings.zero_product A L, rings.plus_zero A L (rings.some_code A L))
  apart f a (t ∷ ts) = elim (cases_mono a t.at) [
    | inl s ↦
        simp (s.0, rings.spread A L, L.product_one, rings.rest_product A L, L.sum_assoc)
        (ap₂ (λ x y. t.code ⊗ f x ⊕ y) (sym s.1) (apart f a ts))
    | inr s ↦
        simp (applied, s.0, rings.product_zero A L, rings.zero_sum A L, rings.rest_product A L)
        (ap (λ y. t.code ⊗ f t.at ⊕ y) (apart f a ts) ∙
        rings.left_comm A L (t.code ⊗ f t.at) (coefficient A ts a ⊗ f a) (applied A f (without a ts)))
  ]

  -- what holds of each term holds without some
  each_without : (P : Mono → Type 0) (a : Mono) (p : Poly) → Each P p → Each P (without a p)
  each_without P a [] u = tt
  each_without P a (t ∷ ts) u =
      cond_both (same a t.at) (without a ts) (t ∷ without a ts) (Each P) (λ _. each_without P a ts u.1) (λ _. (u.0, each_without P a ts u.1))

  -- without some terms a polynomial is no longer
  length_without : (a : Mono) (p : Poly) → length (without a p) ≤ length p
  length_without a [] = omega arith
  length_without a (t ∷ ts) =
      let l : length (without a ts) ≤ length ts = length_without a ts in
      cond_both (same a t.at) (without a ts) (t ∷ without a ts) (λ r. length r ≤ suc (length ts)) (λ _. omega arith) (λ _. omega arith)

  -- coefficients that f sends to 0 stay so without the terms of one such monomial
  coefficient_without : (f : Mono → ℕ) (a b : Mono) (p : Poly) →
      coefficient A p a ⊗ f a ≡ 0 → coefficient A p b ⊗ f b ≡ 0 → coefficient A (without b p) a ⊗ f a ≡ 0
  coefficient_without f a b p ha hb =
      let none : (coefficient A p b ⊗ indicator a b) ⊗ f a ≡ 0 = elim (cases_mono a b) [
        | inl s ↦ simp (s.0, L.product_one, rings.rest_product A L) (ap (λ x. coefficient A p b ⊗ f x) s.1 ∙ hb)
        | inr s ↦ simp (s.0, rings.product_zero A L, rings.zero_product A L)
      ] in
      sym (rings.zero_plus A L (L.product_below (coefficient A (without b p) a) (f a))) ∙
      ap (λ x. x ⊕ coefficient A (without b p) a ⊗ f a) (sym none) ∙
      sym (rings.spread A L (coefficient A p b ⊗ indicator a b) (coefficient A (without b p) a) (f a)) ∙
      ap (λ x. x ⊗ f a) (sym (apart (indicator a) b p)) ∙
      ha

  -- the coefficients decide: where each is 0 or meets a 0 of f, the polynomial gives 0
  decided_below : (P : Mono → Type 0) (f : Mono → ℕ) (n : ℕ) (p : Poly) → length p < n → Each P p →
      ((a : Mono) → P a → coefficient A p a ⊗ f a ≡ 0) → applied A f p ≡ 0
  decided_below P f zero p l u h = absurd (omega arith)
  decided_below P f (suc n) [] l u h = refl
  decided_below P f (suc n) (t ∷ ts) l u h =
      let rest : Poly = without t.at (t ∷ ts) in
      apart f t.at (t ∷ ts) ∙
      ap₂ ◌⊕◌ (h t.at u.0)
      (decided_below P f n rest (rw same_self (omega (arith, length_without t.at ts))) (each_without P t.at (t ∷ ts) u) (λ a pa. coefficient_without f a t.at (t ∷ ts) (h a pa) (h t.at u.0))) ∙
      rings.plus_zero A L (rings.some_code A L)

  -- the same for every length
  pub decided : (P : Mono → Type 0) (f : Mono → ℕ) (p : Poly) → Each P p →
      ((a : Mono) → P a → coefficient A p a ⊗ f a ≡ 0) → applied A f p ≡ 0
  decided P f p = decided_below P f (suc (length p)) p (omega arith)

  -- functions that agree where the coefficient is not 0 give the same
  pub agree : (P : Mono → Type 0) (f g : Mono → ℕ) (p : Poly) → Each P p →
      ((a : Mono) → P a → coefficient A p a ⊗ f a ≡ coefficient A p a ⊗ g a) → applied A f p ≡ applied A g p
  agree P f g p u h =
      rings.same_codes A L (applied A f p) (applied A g p) (polynomials.applied_below A L f p) (polynomials.applied_below A L g p)
      (ap (λ x. applied A f p ⊕ x) (sym (polynomials.applied_times A L (A.negative 1) g p)) ∙ sym (applied_plus f (λ a. A.negative 1 ⊗ g a) p) ∙
      decided P (λ a. f a ⊕ A.negative 1 ⊗ g a) p u
      (λ a pa. L.distributes (coefficient A p a) (f a) (A.negative 1 ⊗ g a) ∙
      ap₂ ◌⊕◌ (h a pa) (rings.product_turn A L (coefficient A p a) (A.negative 1) (g a)) ∙
      rings.difference A L (coefficient A p a ⊗ g a)))

  -- what holds of each term's monomial holds of each monomial whose coefficient is not 0
  pub found : (P : Mono → Type 0) (a : Mono) (p : Poly) → Each P p → (coefficient A p a ≡ 0) ⊎ P a
  found P a [] u = inl refl
  found P a (t ∷ ts) u = elim (cases_mono a t.at) [
    | inl s ↦ inr (subst P (sym s.1) u.0)
    | inr s ↦ elim (found P a ts u.1) [
      | inl z ↦ inl (ap₂ (λ x y. t.code ⊗ x ⊕ y) (indicator_other a t.at s.1) z ∙
          rings.plus_zero A L (L.product_below t.code 0) ∙ rings.product_zero A L t.code)
      | inr h ↦ inr h
    ]
  ]

  -- what holds of everything
  each_any : (p : Poly) → Each (λ a. Unit {0}) p
  each_any [] = tt
  each_any (t ∷ ts) = (tt, each_any ts)

  -- equal coefficients give the same under every function
  pub equal_coefficients : (f : Mono → ℕ) (p r : Poly) → ((a : Mono) → coefficient A p a ≡ coefficient A r a) → applied A f p ≡ applied A f r
  equal_coefficients f p r h =
      let gap : Poly = p ++ scaled A (A.negative 1) r in
      let at_gap : (g : Mono → ℕ) → applied A g gap ≡ applied A g p ⊕ A.negative 1 ⊗ applied A g r =
      λ g. applied_append g p (scaled A (A.negative 1) r) ∙ ap (λ x. applied A g p ⊕ x) (applied_scaled g (A.negative 1) r) in
      rings.same_codes A L (applied A f p) (applied A f r) (polynomials.applied_below A L f p) (polynomials.applied_below A L f r)
      (sym (at_gap f) ∙
      decided (λ a. Unit {0}) f gap (each_any gap)
      (λ a _. ap (λ x. x ⊗ f a) (at_gap (indicator a) ∙ ap (λ x. x ⊕ A.negative 1 ⊗ coefficient A r a) (h a) ∙ rings.difference A L (coefficient A r a)) ∙
      rings.zero_product A L (f a)))
