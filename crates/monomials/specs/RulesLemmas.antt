-- Orders by additive measures, each of which decides where those before it are equal.
use Rattle.std.specs.Prelude.{◌≡◌, ℕ, ◌+◌, ◌<◌, ◌⊎◌, List, refl}
use Rattle.std.specs.declared.cmp.Ordering.TheVariants.{Less, Equal, Greater}
use Rattle.std.proofs.Common.{sym, ◌∙◌, ap, ap₂, inl, inr, mul-add, arith}
use Rattle.std.proofs.lemmas.Bool.{cases_order}
use Rattle.std.proofs.lemmas.Bool.Decides.{nat_tests}
use Rattle.std.specs.Ordering.{ordering_then}
use Rattle.monomials.specs.Monomials.{Mono, one, times, degree}
use Rattle.monomials.specs.Orders.{Order, OrderLaws, turned, Before}
use Rattle.monomials.specs.Rules.{ranked, by, tied, lexicographic, graded, weighted_sum, weighted}
use Rattle.monomials.specs.MonomialsLemmas.{mono_path}

-- the smaller number
ranked_less : (x y : ℕ) → x < y → ranked x y ≡ Less
ranked_less x y h = grind (arith, nat_tests)

-- equal numbers
ranked_equal : (x y : ℕ) → x ≡ y → ranked x y ≡ Equal
ranked_equal x y h = grind (arith, nat_tests)

-- the greater number
ranked_greater : (x y : ℕ) → y < x → ranked x y ≡ Greater
ranked_greater x y h = grind (arith, nat_tests)

-- the same number added to both
ranked_moved : (x y z : ℕ) → ranked (x + z) (y + z) ≡ ranked x y
ranked_moved x y z = grind (arith, nat_tests)

-- a measure of a product is the sum of the measures
abbrev pub Additive : (Mono → ℕ) → Type 0
Additive measure = (a b : Mono) → measure (times a b) ≡ measure a + measure b

-- the laws of an order that may not tell all monomials apart: the same only for those alike
pub record LawsFor (Alike : Mono → Mono → Type 0) (O : Order) : Type 0 where
  pub total : (a b : Mono) → O b a ≡ turned (O a b)
  pub equal : (a b : Mono) → O a b ≡ Equal → Alike a b
  pub transitive : (a b c : Mono) → Before O a b → Before O b c → Before O a c
  pub moved : (a b c : Mono) → O (times a c) (times b c) ≡ O a b
  pub least : (a : Mono) → (Alike one a → ⊥) → Before O one a

-- where all are tied
pub tied_laws : LawsFor (λ _ _. Unit {0}) tied
tied_laws = record { total = λ _ _. refl; equal = λ _ _ _. tt; transitive = λ _ _ _ h _. h; moved = λ _ _ _. refl; least = λ _ d. absurd (d tt) }

module _ (measure : Mono → ℕ) (O : Order) (a b : Mono) where
  -- the smaller measure
  by_less : measure a < measure b → Before (by measure O) a b
  by_less h = ap (λ o. ordering_then o (O a b)) (ranked_less (measure a) (measure b) h)

  -- an equal one leaves it to the order below
  by_equal : measure a ≡ measure b → by measure O a b ≡ O a b
  by_equal e = ap (λ o. ordering_then o (O a b)) (ranked_equal (measure a) (measure b) e)

  -- the greater measure
  by_greater : measure b < measure a → by measure O a b ≡ Greater
  by_greater h = ap (λ o. ordering_then o (O a b)) (ranked_greater (measure a) (measure b) h)

  -- what stands before has the smaller measure, or an equal one and stands before by the order below
  pub before_cases : Before (by measure O) a b → (measure a < measure b) ⊎ ((measure a ≡ measure b) × Before O a b)
  before_cases h = elim (cases_order (measure a) (measure b)) [
    | inl e ↦ inr (e, sym (by_equal e) ∙ h)
    | inr (inl l) ↦ inl l
    | inr (inr g) ↦ let o = by_greater g in let z : ◌≡◌ {A = ℕ} 0 1 = cc in absurd (omega arith)
  ]

  -- what is the same has equal measures
  equal_cases : by measure O a b ≡ Equal → (measure a ≡ measure b) × (O a b ≡ Equal)
  equal_cases h = elim (cases_order (measure a) (measure b)) [
    | inl e ↦ (e, sym (by_equal e) ∙ h)
    | inr (inl l) ↦ let o = by_less l in let z : ◌≡◌ {A = ℕ} 0 1 = cc in absurd (omega arith)
    | inr (inr g) ↦ let o = by_greater g in let z : ◌≡◌ {A = ℕ} 0 1 = cc in absurd (omega arith)
  ]

module _ (measure : Mono → ℕ) (additive : Additive measure) (Alike : Mono → Mono → Type 0) (O : Order) (L : LawsFor Alike O) where
  -- the answer turns
  by_total : (a b : Mono) → by measure O b a ≡ turned (by measure O a b)
  by_total a b = elim (cases_order (measure a) (measure b)) [
    | inl e ↦ by_equal measure O b a (sym e) ∙ L.total a b ∙ ap turned (sym (by_equal measure O a b e))
    | inr (inl h) ↦ by_greater measure O b a h ∙ ap turned (sym (by_less measure O a b h))
    | inr (inr h) ↦ by_less measure O b a h ∙ ap turned (sym (by_greater measure O a b h))
  ]

  -- before, then before
  by_transitive : (a b c : Mono) → Before (by measure O) a b → Before (by measure O) b c → Before (by measure O) a c
  by_transitive a b c h k = elim (before_cases measure O a b h) [
    | inl l ↦ elim (before_cases measure O b c k) [
      | inl l' ↦ by_less measure O a c (omega arith)
      | inr (e', k') ↦ by_less measure O a c (omega arith)
    ]
    | inr (e, h') ↦ elim (before_cases measure O b c k) [
      | inl l' ↦ by_less measure O a c (omega arith)
      | inr (e', k') ↦ by_equal measure O a c (e ∙ e') ∙ L.transitive a b c h' k'
    ]
  ]

  -- 1 stands first
  by_least : (a : Mono) → ((measure one ≡ measure a) × Alike one a → ⊥) → Before (by measure O) one a
  by_least a d =
      let z : measure one ≡ measure one + measure one = additive one one in
      elim (cases_order (measure one) (measure a)) [
        | inl e ↦ by_equal measure O one a e ∙ L.least a (λ h. d (e, h))
        | inr (inl h) ↦ by_less measure O one a h
        | inr (inr h) ↦ absurd (omega arith)
      ]

  -- a further measure above an order: alike are those of equal measure that were alike
  pub by_laws : LawsFor (λ a b. (measure a ≡ measure b) × Alike a b) (by measure O)
  by_laws = record {
    total = by_total;
    equal = λ a b e. let (h, k) = equal_cases measure O a b e in (h, L.equal a b k);
    transitive = by_transitive;
    moved = λ a b c. ap₂ ordering_then (ap₂ ranked (additive a c) (additive b c) ∙ ranked_moved (measure a) (measure b) (measure c)) (L.moved a b c);
    least = by_least;
  }

-- where only equal monomials are alike
pub known_laws : (Alike : Mono → Mono → Type 0) (O : Order) → ((a b : Mono) → Alike a b → a ≡ b) → LawsFor Alike O → OrderLaws O
known_laws Alike O apart L = record {
  total = L.total;
  equal = λ a b e. apart a b (L.equal a b e);
  transitive = L.transitive;
  moved = L.moved;
  least = λ a d. L.least a (λ h. d (sym (apart one a h)));
}

-- an additive measure above a lawful order
pub above_laws : (measure : Mono → ℕ) → Additive measure → (O : Order) → OrderLaws O → OrderLaws (by measure O)
above_laws measure additive O L =
    known_laws _ _ (λ a b h. h.1) (by_laws measure additive (λ a b. a ≡ b) O
    (record { total = L.total; equal = L.equal; transitive = L.transitive; moved = L.moved; least = λ a d. L.least a (λ e. d (sym e)) }))

-- the lexicographic order
pub lexicographic_laws : OrderLaws lexicographic
lexicographic_laws =
    known_laws _ _ (λ a b h. mono_path h.0 h.1.0 h.1.1.0 h.1.1.1.0)
    (by_laws (λ a. a.e0) (λ _ _. refl) _ _
    (by_laws (λ a. a.e1) (λ _ _. refl) _ _
    (by_laws (λ a. a.e2) (λ _ _. refl) _ _
    (by_laws (λ a. a.e3) (λ _ _. refl) _ _ tied_laws))))

-- degrees add up
degree_times : Additive degree
degree_times a b = omega arith

-- the graded order
pub graded_laws : OrderLaws graded
graded_laws = above_laws degree degree_times lexicographic lexicographic_laws

-- weighted sums add up
weighted_sum_times : (weights : List ℕ) → Additive (weighted_sum weights)
weighted_sum_times weights a b = simp mul-add (omega arith)

-- weights above any lawful order
pub weighted_laws : (weights : List ℕ) (O : Order) → OrderLaws O → OrderLaws (weighted weights O)
weighted_laws weights O L = above_laws (weighted_sum weights) (weighted_sum_times weights) O L
