-- Differences of polynomials, and the lead of a polynomial that is not 0.
use Rattle.std.proofs.Common.{◌≡◌, ℕ, suc, ◌<◌, ◌⊎◌, [], ◌∷◌, map, length, get_or, sym, refl, ap, ◌∙◌, subst, ap₂, inl, inr, mod-eq_of_lt, arith}
use Rattle.std.proofs.lemmas.Bool.{cases_eq}
use Rattle.fields.specs.Arithmetic.{Arithmetic, RingLaws}
use Rattle.fields.proofs.Rings as rings
use Rattle.fields.proofs.Listings.{first_below}
use Rattle.monomials.specs.Monomials.{Mono, one}
use Rattle.monomials.specs.Orders.{Before}
use Rattle.monomials.specs.MonomialsLemmas.{cases_mono}
use Rattle.monomials.proofs.Orders as orders
use Rattle.polynomials.specs.Polynomials.{Poly, applied, coefficient, Each}
use Rattle.polynomials.proofs.Polynomials as polynomials
use Rattle.polynomials.proofs.Coefficients as coefficients
use Rattle.rows.specs.Ideals.{SetUp, Lawful, InIdeal, Leads}
use Rattle.rows.specs.Remainders.{minus}

-- what holds of each term of both holds of each of the difference
pub each_minus : (A : Arithmetic) (P : Mono → Type 0) (p r : Poly) → Each P p → Each P r → Each P (minus A p r)
each_minus A P p [] u v = u
each_minus A P p (t ∷ ts) u v = (v.0, each_minus A P p ts u v.1)

-- the monomial of a term
abbrev pub term_at : Poly → ℕ → Mono
term_at p k = get_or (map (λ t. t.at) p) k one

module _ (A : Arithmetic) (L : RingLaws A) where
  infixl 60 ◌⊕◌
  infixl 70 ◌⊗◌
  infixl 80 ⊖◌
  open A use {sum as ◌⊕◌, product as ◌⊗◌, negative as ⊖◌, order as q}

  -- a negative code as a factor
  negative_factor : (c x : ℕ) → ⊖ c ⊗ x ≡ ⊖ 1 ⊗ (c ⊗ x)
  negative_factor c x =
      rings.negative_product A L c x ∙ ap ⊖◌ (sym (rings.one_product A L (c ⊗ x) ∙ mod-eq_of_lt (L.product_below c x))) ∙
      sym (rings.negative_product A L 1 (c ⊗ x))

  -- a difference under a function
  pub applied_minus : (f : Mono → ℕ) (p r : Poly) → applied A f (minus A p r) ≡ applied A f p ⊕ ⊖ 1 ⊗ applied A f r
  applied_minus f p [] =
      sym (ap (λ x. applied A f p ⊕ x) (rings.product_zero A L (⊖ 1)) ∙ rings.plus_zero A L (polynomials.applied_below A L f p))
  applied_minus f p (t ∷ ts) =
      ap₂ ◌⊕◌ (negative_factor t.code (f t.at)) (applied_minus f p ts) ∙
      rings.left_comm A L (⊖ 1 ⊗ (t.code ⊗ f t.at)) (applied A f p) (⊖ 1 ⊗ applied A f ts) ∙
      ap (λ x. applied A f p ⊕ x) (sym (L.distributes (⊖ 1) (t.code ⊗ f t.at) (applied A f ts)))

  -- a coefficient that is not 0 stands at the monomial of a term
  pub occurs : (a : Mono) (p : Poly) → (coefficient A p a ≡ 0) ⊎ ((k : ℕ) × (k < length p) × (term_at p k ≡ a))
  occurs a [] = inl refl
  occurs a (t ∷ ts) = elim (cases_mono a t.at) [
    | inl s ↦ inr (0, omega arith, sym s.1)
    | inr s ↦ elim (occurs a ts) [
      | inl z ↦ inl (ap₂ (λ x y. t.code ⊗ x ⊕ y) (coefficients.indicator_other a t.at s.1) z ∙
          rings.plus_zero A L (L.product_below t.code 0) ∙ rings.product_zero A L t.code)
      | inr (k, l, e) ↦ inr (suc k, omega arith, e)
    ]
  ]

module _ (U : SetUp) (K : Lawful U) where
  open U use {subject as S, field as A, order as O}

  -- the difference of members of the ideal is a member
  pub ideal_minus : (p r : Poly) → InIdeal U p → InIdeal U r → InIdeal U (minus A p r)
  ideal_minus p r g h = record {
    variables = each_minus A _ p r g.variables h.variables;
    annihilates = λ k l.
        applied_minus A K.field.ring (λ a. S.image A a k) p r ∙
        ap₂ (λ x y. A.sum x (A.product (A.negative 1) y)) (g.annihilates k l) (h.annihilates k l) ∙
        rings.difference A K.field.ring 0;
  }

  -- every coefficient is 0, or a monomial leads
  pub zero_or_led : (p : Poly) → ((a : Mono) → coefficient A p a ≡ 0) ⊎ ((a : Mono) × Leads U p a)
  zero_or_led p =
      let at : ℕ → Mono = term_at p in
      elim (first_below (λ i j. Before O (at j) (at i)) (λ i. orders.never_before O K.order (at i))
      (λ i j k h l. K.order.transitive (at k) (at j) (at i) l h)
      (λ i j. elim (orders.compared O K.order (at j) (at i)) [
        | inl h ↦ inl h
        | inr (inl e) ↦ inr (λ h. orders.never_before O K.order (at i) (subst (λ x. Before O x (at i)) e h))
        | inr (inr h) ↦ inr (λ g. orders.never_before O K.order (at i) (K.order.transitive (at i) (at j) (at i) h g))
      ])
      (λ k. coefficient A p (at k) ≡ 0 → ⊥)
      (λ k. elim (cases_eq (coefficient A p (at k)) 0) [ inl z ↦ inr (λ d. d z) | inr d ↦ inl d ])
      (length p)) [
        | inl (k, F) ↦ inr (
          at k,
          record {
            occurs = F.passes;
            greatest = λ b h. elim (occurs A K.field.ring b p) [
              | inl z ↦ z
              | inr (i, l, e) ↦ elim (cases_eq (coefficient A p b) 0) [
                | inl z ↦ z
                | inr d ↦ absurd (F.first i l (λ z. d (ap (coefficient A p) (sym e) ∙ z)) (subst (Before O (at k)) (sym e) h))
              ]
            ];
          },
        )
        | inr none ↦ inl (λ a. elim (occurs A K.field.ring a p) [
          | inl z ↦ z
          | inr (i, l, e) ↦ elim (cases_eq (coefficient A p a) 0) [
            | inl z ↦ z
            | inr d ↦ absurd (none i l (λ z. d (ap (coefficient A p) (sym e) ∙ z)))
          ]
        ])
      ]
