-- A relation: a monomial plus a combination of the stairs before it. What leads it, and what it says of an array that obeys it.
use Rattle.std.proofs.Common.{◌≡◌, ℕ, ◌<◌, ◌⊎◌, sym, refl, ap, ◌∙◌, subst, ap₂, subst₂, inl, inr, mod-eq_of_lt, arith}
use Rattle.fields.specs.Arithmetic.{Arithmetic, RingLaws, total}
use Rattle.fields.proofs.Rings as rings
use Rattle.fields.proofs.Totals as totals
use Rattle.monomials.specs.Monomials.{Mono, one, times, variable, Within}
use Rattle.monomials.specs.Orders.{Order, OrderLaws, Before, UpTo}
use Rattle.monomials.specs.MonomialsLemmas.{cases_mono, times_one, within_times, within_variable, within_one}
use Rattle.monomials.proofs.Orders as orders
use Rattle.polynomials.specs.Polynomials.{Poly, applied, coefficient, indicator, moved_by}
use Rattle.polynomials.proofs.Polynomials as polynomials
use Rattle.polynomials.proofs.Coefficients as coefficients
use Rattle.rows.proofs.Reductions.{Reduces}
use Rattle.rows.proofs.Staircases.{Listed}
use Rattle.rows.specs.Ideals.{SetUp, Leads}
use Rattle.rows.specs.Continuation.{Obeys}

-- the polynomial is the monomial a plus a combination of stairs before a
pub record RelationAt (A : Arithmetic) (O : Order) (n : ℕ) (stair : ℕ → Mono) (p : Poly) (a : Mono) : Type 0 where
  pub codes : ℕ → ℕ
  pub support : (j : ℕ) → (codes j ≡ 0) ⊎ ((j < n) × Before O (stair j) a)
  pub reads : (f : Mono → ℕ) → applied A f p ≡ A.sum (A.product 1 (f a)) (total A n (λ j. A.product (codes j) (f (stair j))))

-- an array of codes that obeys polynomials in some number at every offset
pub record Obeying (A : Arithmetic) (m : ℕ) (count : ℕ) (relation : ℕ → Poly) (f : Mono → ℕ) : Type 0 where
  pub below : (a : Mono) → Within m a → f a < A.order
  pub obeys : (i : ℕ) → i < count → (offset : Mono) → Within m offset → Obeys A f (relation i) offset

-- an array that obeys, moved by a variable, obeys
pub obeying_shifted : (A : Arithmetic) (m count : ℕ) (relation : ℕ → Poly) (f : Mono → ℕ) → Obeying A m count relation f →
    (v : ℕ) → v < m → Obeying A m count relation (λ a. f (times a (variable v)))
obeying_shifted A m count relation f g v l = record {
  below = λ a w. g.below (times a (variable v)) (within_times m a (variable v) w (within_variable m v l));
  obeys = λ i h b w.
      sym (polynomials.applied_moved A f (variable v) (moved_by b (relation i))) ∙
      ap (applied A f) (polynomials.moved_twice b (variable v) (relation i)) ∙
      g.obeys i h (times b (variable v)) (within_times m b (variable v) w (within_variable m v l));
}

module _ (A : Arithmetic) (L : RingLaws A) (O : Order) (K : OrderLaws O) (n : ℕ) (stair : ℕ → Mono) (p : Poly) (a : Mono)
    (R : RelationAt A O n stair p a) where
  infixl 60 ◌⊕◌
  infixl 70 ◌⊗◌
  open A use {sum as ◌⊕◌, product as ◌⊗◌, order as q}

  -- what the relation says of an array that it gives 0 on
  pub solved : (f : Mono → ℕ) → f a < q → applied A f p ≡ 0 → f a ≡ total A n (λ j. A.negative 1 ⊗ R.codes j ⊗ f (stair j))
  solved f h e =
      let t : ℕ = total A n (λ j. R.codes j ⊗ f (stair j)) in
      let c : ℕ = A.negative 1 in
      let z : f a ⊕ t ≡ 0 = ap (λ x. x ⊕ t) (sym (rings.one_product A L (f a) ∙ mod-eq_of_lt h)) ∙ sym (R.reads f) ∙ e in
      sym (mod-eq_of_lt h) ∙
      rings.cancel A L t (f a) (c ⊗ t) (L.sum_comm t (f a) ∙ z ∙ sym (rings.difference A L t)) ∙
      mod-eq_of_lt (L.product_below c t) ∙
      sym (totals.total_product A L n c (λ j. R.codes j ⊗ f (stair j))) ∙
      totals.total_same A n _ _ (λ j l. sym (L.product_assoc c (R.codes j) (f (stair j))))

  -- the relation moved has its lead alone, at its lead and after it
  lead_only : (b c : Mono) → UpTo O (times a b) c → coefficient A (moved_by b p) c ≡ indicator c (times a b)
  lead_only b c h =
      let x : ℕ = indicator c (times a b) in
      polynomials.applied_moved A (indicator c) b p ∙
      R.reads (λ y. indicator c (times y b)) ∙
      ap (λ t. 1 ⊗ x ⊕ t) (totals.total_zero A L n _ (λ j l. elim (R.support j) [
        | inl z ↦ simp (z, rings.zero_product A L)
        | inr (_, k) ↦
            let g : Before O (times (stair j) b) c = orders.before_up_to O K _ (times a b) c (orders.before_times O K (stair j) a b k) h in
            ap (λ y. R.codes j ⊗ y) (coefficients.indicator_other c (times (stair j) b) (λ e. orders.never_before O K c (subst (λ y. Before O y c) (sym e) g))) ∙
            rings.product_zero A L (R.codes j)
      ])) ∙
      rings.plus_zero A L (L.product_below 1 x) ∙
      rings.one_product A L x ∙
      mod-eq_of_lt (omega (arith, L.two_codes, coefficients.indicator_small c (times a b)))

  -- its coefficient is 1 at its lead
  pub lead_code : (b : Mono) → coefficient A (moved_by b p) (times a b) ≡ 1
  lead_code b = lead_only b (times a b) (inr refl) ∙ coefficients.indicator_own (times a b)

  -- and 0 after its lead
  pub lead_last : (b c : Mono) → Before O (times a b) c → coefficient A (moved_by b p) c ≡ 0
  lead_last b c h =
      lead_only b c (inl h) ∙
      coefficients.indicator_other c (times a b) (λ e. orders.never_before O K c (subst (λ x. Before O x c) (sym e) h))

  -- its monomials are its lead and stairs
  pub terms : (b : Mono) → (coefficient A p b ≡ 0 → ⊥) → (b ≡ a) ⊎ Listed n stair b
  terms b h = elim (cases_mono b a) [
    | inl s ↦ inl s.1
    | inr d ↦ elim (totals.total_or A L n (λ j. R.codes j ⊗ indicator b (stair j)) (λ j l. elim (cases_mono b (stair j)) [
      | inl s ↦ inr (j, l, sym s.1)
      | inr s ↦ inl (ap (λ x. R.codes j ⊗ x) (coefficients.indicator_other b (stair j) s.1) ∙ rings.product_zero A L (R.codes j))
    ])) [
      | inl z ↦ absurd (h (R.reads (indicator b) ∙
          ap₂ (λ x y. 1 ⊗ x ⊕ y) (coefficients.indicator_other b a d.1) z ∙
          rings.plus_zero A L (L.product_below 1 0) ∙ rings.product_zero A L 1))
      | inr s ↦ inr s
    ]
  ]

-- a relation among those that are obeyed reduces its lead
pub relation_reduces : (A : Arithmetic) (L : RingLaws A) (O : Order) (K : OrderLaws O) (m : ℕ) (n : ℕ) (stair : ℕ → Mono)
    (count : ℕ) (relation : ℕ → Poly) (i : ℕ) → i < count → (a : Mono) → Within m a → RelationAt A O n stair (relation i) a →
    Reduces A (Obeying A m count relation) n stair (λ s. Before O s a) a
relation_reduces A L O K m n stair count relation i h a w R = record {
  codes = λ j. A.product (A.negative 1) (R.codes j);
  support = λ j. elim (R.support j) [ inl z ↦ inl (ap (A.product (A.negative 1)) z ∙ rings.product_zero A L (A.negative 1)) | inr u ↦ inr u ];
  holds = λ f g. solved A L O K n stair (relation i) a R f (g.below a w)
      (ap (applied A f) (sym (polynomials.moved_one (relation i))) ∙ g.obeys i h one (within_one m));
}

-- a relation, moved or not, leads at its monomial
module _ (U : SetUp) (L : RingLaws U.field) (K : OrderLaws U.order) (n : ℕ) (stair : ℕ → Mono) (p : Poly) (a : Mono)
    (R : RelationAt U.field U.order n stair p a) where
  pub leads_moved : (b : Mono) → Leads U (moved_by b p) (times a b)
  leads_moved b = record {
    occurs = λ e. omega (arith, e, lead_code U.field L U.order K n stair p a R b);
    greatest = lead_last U.field L U.order K n stair p a R b;
  }

  -- the relation itself
  pub leads_itself : Leads U p a
  leads_itself = subst₂ (Leads U) (polynomials.moved_one p) (times_one a) (leads_moved one)

  -- its coefficient there is 1
  pub code_itself : coefficient U.field p a ≡ 1
  code_itself =
      ap₂ (coefficient U.field) (sym (polynomials.moved_one p)) (sym (times_one a)) ∙ lead_code U.field L U.order K n stair p a R one
