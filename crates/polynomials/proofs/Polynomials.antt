-- Laws of polynomials under a function of monomials: products by a monomial, and factors.
use Rattle.std.proofs.Common.{◌≡◌, ℕ, ◌<◌, [], ◌∷◌, sym, refl, ap, ◌∙◌, ap₂}
use Rattle.fields.specs.Arithmetic.{Arithmetic, RingLaws}
use Rattle.fields.proofs.Rings as rings
use Rattle.monomials.specs.Monomials.{Mono, one, times, Within}
use Rattle.monomials.specs.MonomialsLemmas.{times_one, times_assoc, within_times}
use Rattle.polynomials.specs.Polynomials.{Poly, applied, moved_by, InVariables}

-- a polynomial moved, under a function: the function moved
pub applied_moved : (A : Arithmetic) (f : Mono → ℕ) (b : Mono) (p : Poly) → applied A f (moved_by b p) ≡ applied A (λ a. f (times a b)) p
applied_moved A f b [] = refl
applied_moved A f b (t ∷ ts) = ap (A.sum (A.product t.code (f (times t.at b)))) (applied_moved A f b ts)

-- a move by 1
pub moved_one : (p : Poly) → moved_by one p ≡ p
moved_one [] = refl
moved_one (t ∷ ts) = ap₂ (λ x y. record { at = x; code = t.code } ∷ y) (times_one t.at) (moved_one ts)

-- a move after a move
pub moved_twice : (b c : Mono) (p : Poly) → moved_by c (moved_by b p) ≡ moved_by (times b c) p
moved_twice b c [] = refl
moved_twice b c (t ∷ ts) = ap₂ (λ x y. record { at = x; code = t.code } ∷ y) (times_assoc t.at b c) (moved_twice b c ts)

-- a move by a monomial of the variables keeps to them
pub moved_within : (m : ℕ) (b : Mono) → Within m b → (p : Poly) → InVariables m p → InVariables m (moved_by b p)
moved_within m b w [] u = tt
moved_within m b w (t ∷ ts) u = (within_times m t.at b u.0 w, moved_within m b w ts u.1)

module _ (A : Arithmetic) (L : RingLaws A) where
  infixl 60 ◌⊕◌
  infixl 70 ◌⊗◌
  open A use {sum as ◌⊕◌, product as ◌⊗◌, order as q}

  -- what a polynomial gives is a code
  pub applied_below : (f : Mono → ℕ) (p : Poly) → applied A f p < q
  applied_below f [] = rings.some_code A L
  applied_below f (t ∷ ts) = L.sum_below (t.code ⊗ f t.at) (applied A f ts)

  -- a factor of the function
  pub applied_times : (c : ℕ) (f : Mono → ℕ) (p : Poly) → applied A (λ a. c ⊗ f a) p ≡ c ⊗ applied A f p
  applied_times c f [] = sym (rings.product_zero A L c)
  applied_times c f (t ∷ ts) =
      ap₂ ◌⊕◌ (rings.product_turn A L t.code c (f t.at)) (applied_times c f ts) ∙
      sym (L.distributes c (t.code ⊗ f t.at) (applied A f ts))
