-- Whether two polynomials have the same coefficients, by computation at the monomials of their terms.
use Rattle.std.proofs.Common.{◌≡◌, ℕ, ◌<◌, Bool, true, ◌&&◌, eqb, List, [], length, get_or, sym, ap, ◌∙◌, inl, inr}
use Rattle.std.proofs.lemmas.Bool.{and_parts, eqb-true}
use Rattle.fields.specs.Arithmetic.{Arithmetic, RingLaws}
use Rattle.monomials.specs.Monomials.{Mono}
use Rattle.polynomials.specs.Polynomials.{Poly, coefficient}
use Rattle.rows.proofs.Differences.{term_at, occurs}
use Rattle.worked_rows.specs.Patterns.{SameInTurn}
use Rattle.worked_rows.proofs.Tests.{every, every_sound}

-- whether coefficients are equal at the terms of one
unfoldable pub same_at? : Arithmetic → Poly → Poly → Poly → Bool
same_at? A p r s = every (length s) (λ k. eqb (coefficient A p (term_at s k)) (coefficient A r (term_at s k)))

-- whether they are equal at the terms of both
unfoldable pub same? : Arithmetic → Poly → Poly → Bool
same? A p r = same_at? A p r p && same_at? A p r r

module _ (A : Arithmetic) (L : RingLaws A) where
  -- at a term
  at_term : (p r s : Poly) → same_at? A p r s ≡ true → (k : ℕ) → k < length s → (a : Mono) → term_at s k ≡ a → coefficient A p a ≡ coefficient A r a
  unfolding same_at?
  at_term p r s h k l a e =
      ap (coefficient A p) (sym e) ∙
      eqb-true _ _ (every_sound (length s) (λ k. eqb (coefficient A p (term_at s k)) (coefficient A r (term_at s k))) h k l) ∙
      ap (coefficient A r) e

  -- everywhere
  pub same_sound : (p r : Poly) → same? A p r ≡ true → (a : Mono) → coefficient A p a ≡ coefficient A r a
  unfolding same?
  same_sound p r h a =
      let (hp, hr) = and_parts (same_at? A p r p) (same_at? A p r r) h in
      elim (occurs A L a p) [
        | inr (k, l, e) ↦ at_term p r p hp k l a e
        | inl z ↦ elim (occurs A L a r) [
          | inr (k, l, e) ↦ at_term p r r hr k l a e
          | inl y ↦ z ∙ sym y
        ]
      ]

-- whether two lists have the same polynomials in turn
unfoldable pub in_turn? : Arithmetic → List Poly → List Poly → Bool
in_turn? A G H = eqb (length G) (length H) && every (length G) (λ i. same? A (get_or G i []) (get_or H i []))

-- they have
pub in_turn_sound : (A : Arithmetic) → RingLaws A → (G H : List Poly) → in_turn? A G H ≡ true → SameInTurn A G H
unfolding in_turn?
in_turn_sound A L G H h =
    let (long, each) = and_parts (eqb (length G) (length H)) (every (length G) (λ i. same? A (get_or G i []) (get_or H i []))) h in
    record {
      as_many = eqb-true (length G) (length H) long;
      equal = λ i l. same_sound A L (get_or G i []) (get_or H i []) (every_sound (length G) (λ i. same? A (get_or G i []) (get_or H i [])) each i l);
    }
