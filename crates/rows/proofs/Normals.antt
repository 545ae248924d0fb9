-- Normal forms: where the good arrays tell the stairs apart, each monomial has one combination of stairs, no stair leads
-- a polynomial that the arrays send to 0, and codes on the stairs continue to an array that obeys all such polynomials.
use Rattle.std.proofs.Common.{◌≡◌, ℕ, ◌%◌, ◌<◌, ◌⊎◌, sym, refl, ap, ◌∙◌, subst, ap₂, inl, inr, mod-eq_of_lt}
use Rattle.fields.specs.Arithmetic.{total}
use Rattle.fields.proofs.Rings as rings
use Rattle.fields.proofs.Totals as totals
use Rattle.fields.proofs.Totals.{unit_code, unit_own}
use Rattle.monomials.specs.Monomials.{Mono, Within}
use Rattle.monomials.proofs.Orders as orders
use Rattle.monomials.specs.Orders.{Before}
use Rattle.polynomials.specs.Polynomials.{Poly, applied, coefficient, indicator, InVariables}
use Rattle.polynomials.proofs.Polynomials as polynomials
use Rattle.polynomials.proofs.Coefficients as coefficients
use Rattle.rows.proofs.Reductions.{Prefix, Red, Full, unit}
use Rattle.rows.proofs.Reductions as reductions

-- good arrays in some number that tell combinations of the stairs apart, and a test of what has been seen
pub record Probes (X : Prefix) : Type 0 where
  pub width : ℕ
  pub probe : ℕ → Mono → ℕ
  pub good : (k : ℕ) → k < width → X.Good (probe k)
  pub independent : (e : ℕ → ℕ) →
      ((k : ℕ) → k < width → total X.field X.shape.stairs (λ j. X.field.product (e j) (probe k (X.shape.stair j))) ≡ 0) →
      (j : ℕ) → j < X.shape.stairs → e j % X.field.order ≡ 0
  pub reached : (a : Mono) → (Within X.variables a × X.shape.Seen a) ⊎ (Within X.variables a × X.shape.Seen a → ⊥)

module _ (X : Prefix) (Y : Probes X) where
  infixl 60 ◌⊕◌
  infixl 70 ◌⊗◌
  open X use {field as A, ring as L, order as O, order_laws as K, variables as m, shape, Good}
  open X.shape use {Seen, stairs as n, stair}
  open X.field use {sum as ◌⊕◌, product as ◌⊗◌, order as q}

  -- two reductions of one monomial have the same codes
  pub unique : {U V : Mono → Type 0} {a : Mono} (r : Red X U a) (s : Red X V a) (j : ℕ) → j < n → r.codes j % q ≡ s.codes j % q
  unique {U} {V} {a} r s j l =
      let c : ℕ = A.negative 1 in
      let e : ℕ → ℕ = λ j. r.codes j ⊕ c ⊗ s.codes j in
      rings.same_rest A L (r.codes j) (s.codes j)
      (sym (mod-eq_of_lt (L.sum_below (r.codes j) (c ⊗ s.codes j))) ∙
      Y.independent e
      (λ k h.
      let x : ℕ → ℕ = λ j. Y.probe k (stair j) in
      totals.total_spread A L n c r.codes s.codes x ∙
      ap₂ (λ y z. y ⊕ c ⊗ z) (sym (r.holds (Y.probe k) (Y.good k h))) (sym (s.holds (Y.probe k) (Y.good k h))) ∙
      rings.difference A L (Y.probe k a))
      j l)

  -- the normal form: the codes of what has been seen, and 0 elsewhere
  codes_at : (a : Mono) → (Within m a × Seen a) ⊎ (Within m a × Seen a → ⊥) → ℕ → ℕ
  codes_at a (inl h) = (reductions.reduced X a h.0 h.1).codes
  codes_at a (inr d) = λ j. 0

  -- the normal form of a monomial
  pub normal : Mono → ℕ → ℕ
  normal a = codes_at a (Y.reached a)

  -- it is a reduction
  pub normal_full : (a : Mono) → Within m a → Seen a → (r : Full X a) × (normal a ≡ r.codes)
  unfolding normal codes_at
  normal_full a w s = go (Y.reached a)
    where
      go : (x : (Within m a × Seen a) ⊎ (Within m a × Seen a → ⊥)) → (r : Full X a) × (codes_at a x ≡ r.codes)
      go (inl h) = (reductions.reduced X a h.0 h.1, refl)
      go (inr d) = absurd (d (w, s))

  -- every good array has the combination
  pub normal_holds : (a : Mono) → Within m a → Seen a → (f : Mono → ℕ) → Good f → f a ≡ total A n (λ j. normal a j ⊗ f (stair j))
  normal_holds a w s f g =
      let (r, e) = normal_full a w s in
      r.holds f g ∙ ap (λ (c : ℕ → ℕ). total A n (λ j. c j ⊗ f (stair j))) (sym e)

  -- only stairs up to the monomial have a part in it
  pub normal_before : (a : Mono) → Within m a → Seen a → (j : ℕ) → Before O a (stair j) → normal a j ≡ 0
  normal_before a w s j h =
      let (r, e) = normal_full a w s in
      ap (λ (c : ℕ → ℕ). c j) e ∙ elim (r.support j) [
        | inl z ↦ z
        | inr u ↦ absurd (orders.never_before O K (stair j) (orders.up_to_before O K (stair j) a (stair j) u.1 h))
      ]

  -- a stair is its own normal form
  pub normal_stair : (j : ℕ) → j < n → Seen (stair j) → (i : ℕ) → i < n → normal (stair j) i % q ≡ unit_code j i % q
  unfolding unit
  normal_stair j l s i k =
      let (r, e) = normal_full (stair j) (shape.within j l) s in
      ap (λ (c : ℕ → ℕ). c i % q) e ∙ unique r (unit X j l) i k

  -- a polynomial that every probe sends to 0, and whose monomials have been seen, is 0 in normal form
  pub cleared : (p : Poly) → InVariables m p → ((k : ℕ) → k < Y.width → applied A (Y.probe k) p ≡ 0) →
      ((a : Mono) → Within m a → (coefficient A p a ≡ 0) ⊎ Seen a) →
      (j : ℕ) → j < n → applied A (λ a. normal a j) p ≡ 0
  cleared p u h seen j l =
      sym (mod-eq_of_lt (polynomials.applied_below A L (λ a. normal a j) p)) ∙
      Y.independent (λ j. applied A (λ a. normal a j) p)
      (λ k hk.
      sym (coefficients.applied_total A L n normal (λ j. Y.probe k (stair j)) p) ∙
      coefficients.agree A L (Within m) (λ a. total A n (λ j. normal a j ⊗ Y.probe k (stair j))) (Y.probe k) p u
      (λ a w. elim (seen a w) [
        | inl z ↦ simp (z, rings.zero_product A L)
        | inr s ↦ ap (λ x. coefficient A p a ⊗ x) (sym (normal_holds a w s (Y.probe k) (Y.good k hk)))
      ]) ∙
      h k hk)
      j l

  -- no stair leads a polynomial that every probe sends to 0
  pub no_lead : (p : Poly) → InVariables m p → ((k : ℕ) → k < Y.width → applied A (Y.probe k) p ≡ 0) →
      (j : ℕ) → j < n → Seen (stair j) → ((b : Mono) → Before O (stair j) b → coefficient A p b ≡ 0) →
      coefficient A p (stair j) ≡ 0
  no_lead p u h j l s last =
      sym (coefficients.agree A L (Within m) (λ a. normal a j) (indicator (stair j)) p u
      (λ a w. elim (orders.compared O K a (stair j)) [
        | inl b ↦
            ap (λ x. coefficient A p a ⊗ x)
            (normal_before a w (shape.earlier a (stair j) b s) j b ∙
            sym (coefficients.indicator_other (stair j) a (λ e. orders.never_before O K (stair j) (subst (λ x. Before O x (stair j)) (sym e) b))))
        | inr (inl e) ↦
            sym (rings.product_rest A L (coefficient A p a) (normal a j)) ∙
            ap (λ x. coefficient A p a ⊗ x) (ap (λ x. normal x j % q) e ∙ normal_stair j l s j l ∙ ap (λ x. x % q) (unit_own j ∙ sym (own a e))) ∙
            rings.product_rest A L (coefficient A p a) (indicator (stair j) a)
        | inr (inr b) ↦ simp (last a b, rings.zero_product A L)
      ])) ∙
      cleared p u h
      (λ a w. elim (orders.compared O K a (stair j)) [
        | inl b ↦ inr (shape.earlier a (stair j) b s)
        | inr (inl e) ↦ inr (subst Seen (sym e) s)
        | inr (inr b) ↦ inl (last a b)
      ])
      j l
    where
      own : (a : Mono) → a ≡ stair j → indicator (stair j) a ≡ 1
      own a e = ap (indicator (stair j)) e ∙ coefficients.indicator_own (stair j)

  -- the continuation of codes on the stairs
  pub continued : (ℕ → ℕ) → Mono → ℕ
  continued σ a = total A n (λ j. normal a j ⊗ σ j)

  -- it is an array of codes
  pub continued_below : (σ : ℕ → ℕ) (a : Mono) → continued σ a < q
  unfolding continued
  continued_below σ a = totals.total_below A L n (λ j. normal a j ⊗ σ j)

  -- it has the codes on the stairs
  pub continued_given : (σ : ℕ → ℕ) (j : ℕ) → j < n → Seen (stair j) → continued σ (stair j) ≡ σ j % q
  unfolding continued
  continued_given σ j l s =
      totals.total_same A n _ (λ i. unit_code j i ⊗ σ i)
      (λ i k. sym (rings.rest_product A L (normal (stair j) i) (σ i)) ∙ ap (λ x. x ⊗ σ i) (normal_stair j l s i k) ∙ rings.rest_product A L (unit_code j i) (σ i)) ∙
      totals.total_unit A L n j σ l

  -- it obeys every polynomial that the probes send to 0
  pub continued_obeys : (σ : ℕ → ℕ) (p : Poly) → InVariables m p → ((k : ℕ) → k < Y.width → applied A (Y.probe k) p ≡ 0) →
      ((a : Mono) → Within m a → (coefficient A p a ≡ 0) ⊎ Seen a) → applied A (continued σ) p ≡ 0
  unfolding continued
  continued_obeys σ p u h seen =
      coefficients.applied_total A L n normal σ p ∙
      totals.total_zero A L n _ (λ j l. ap (λ x. x ⊗ σ j) (cleared p u h seen j l) ∙ rings.zero_product A L (σ j))

  -- the codes of a polynomial's remainder
  pub remainder : Poly → ℕ → ℕ
  remainder p j = applied A (λ a. normal a j) p

  -- they are codes
  pub remainder_below : (p : Poly) (j : ℕ) → remainder p j < q
  unfolding remainder
  remainder_below p j = polynomials.applied_below A L (λ a. normal a j) p

  -- on every good array the polynomial gives what its remainder does
  pub remainder_holds : (p : Poly) → InVariables m p → ((a : Mono) → Within m a → Seen a) → (f : Mono → ℕ) → Good f →
      applied A f p ≡ total A n (λ j. remainder p j ⊗ f (stair j))
  unfolding remainder
  remainder_holds p u seen f g =
      coefficients.applied_same A (Within m) f (λ a. total A n (λ j. normal a j ⊗ f (stair j))) (λ a w. normal_holds a w (seen a w) f g) p u ∙
      coefficients.applied_total A L n normal (λ j. f (stair j)) p

  -- codes that do so on every probe are those of the remainder
  pub remainder_only : (p : Poly) → InVariables m p → ((a : Mono) → Within m a → Seen a) → (e : ℕ → ℕ) →
      ((k : ℕ) → k < Y.width → applied A (Y.probe k) p ≡ total A n (λ j. e j ⊗ Y.probe k (stair j))) →
      (j : ℕ) → j < n → e j % q ≡ remainder p j % q
  remainder_only p u seen e h j l =
      let c : ℕ = A.negative 1 in
      rings.same_rest A L (e j) (remainder p j)
      (sym (mod-eq_of_lt (L.sum_below (e j) (c ⊗ remainder p j))) ∙
      Y.independent (λ j. e j ⊕ c ⊗ remainder p j)
      (λ k hk.
      totals.total_spread A L n c e (remainder p) (λ j. Y.probe k (stair j)) ∙
      ap₂ (λ x y. x ⊕ c ⊗ y) (sym (h k hk)) (sym (remainder_holds p u seen (Y.probe k) (Y.good k hk))) ∙
      rings.difference A L (applied A (Y.probe k) p))
      j l)
