-- Clearing by one line more.
use Rattle.std.proofs.Common.{◌≡◌, ℕ, suc, ◌+◌, ◌<◌, ◌≤◌, true, false, List, [], ◌∷◌, ◌++◌, length, get_or, sym, refl, ap, ◌∙◌, subst, ap₂, inl, inr, mod-eq_of_lt, arith}
use Rattle.std.proofs.lemmas.Bool.{cases_eq, cases_lt, cases_order}
use Rattle.fields.specs.Arithmetic.{Arithmetic, RingLaws, total}
use Rattle.fields.proofs.Rings as rings
use Rattle.fields.proofs.Totals as totals
use Rattle.rows.specs.declared.line.Line.{Line}
use Rattle.rows.specs.Lines.{line, is_stair, stairs_of}
use Rattle.elimination.specs.Echelons.{Echelon}
use Rattle.elimination.specs.Clearings.{Eliminated, CombinedOf, Cleared}
use Rattle.elimination.proofs.Pushes.{stairs_same, stairs_length, stair_old, stair_new}
use Rattle.elimination.proofs.Echelons.{FitsAfter, echelon_before, echelon_last, stair_inside, few_stairs}

module _ (A : Arithmetic) (L : RingLaws A) where
  infixl 60 ◌⊕◌
  infixl 70 ◌⊗◌
  open A use {sum as ◌⊕◌, product as ◌⊗◌, order as q}

  -- zeros stay zero
  zero_plus_zero : (x : ℕ) {a b : ℕ} → a ≡ 0 → b ≡ 0 → a ⊕ x ⊗ b ≡ 0
  zero_plus_zero x e f = ap₂ (λ a b. a ⊕ x ⊗ b) e f ∙ ap (λ y. 0 ⊕ y) (rings.product_zero A L x) ∙ rings.plus_zero A L (rings.some_code A L)

  -- x times a vector and a combination of those before it, in a combination of vectors
  vector_more : (n a x : ℕ) (c d e v : ℕ → ℕ) → ((j : ℕ) → j < n → d j ≡ c j ⊕ x ⊗ e j) → d n ≡ x →
      a ⊕ total A n (λ j. c j ⊗ v j) ⊕ x ⊗ (v n ⊕ total A n (λ j. e j ⊗ v j)) ≡ a ⊕ total A (suc n) (λ j. d j ⊗ v j)
  vector_more n a x c d e v h own =
      let T : ℕ = total A n (λ j. c j ⊗ v j) in
      let C : ℕ = total A n (λ j. e j ⊗ v j) in
      L.sum_assoc a T (x ⊗ (v n ⊕ C)) ∙
      ap (λ y. a ⊕ y)
      (ap (λ y. T ⊕ y) (L.distributes x (v n) C ∙ L.sum_comm (x ⊗ v n) (x ⊗ C)) ∙
      sym (L.sum_assoc T (x ⊗ C) (x ⊗ v n)) ∙
      sym (ap₂ ◌⊕◌ (totals.total_same A n _ _ (λ j b. ap (λ y. y ⊗ v j) (h j b)) ∙ totals.total_spread A L n x c e v) (ap (λ y. y ⊗ v n) own)))

  -- before the first line
  pub none_cleared : (w : ℕ) (image codes : List ℕ) → ((j : ℕ) → get_or codes j 0 ≡ 0) → Cleared A w [] image image codes
  none_cleared w image codes zero = record {
    codes_below = λ j. subst (λ y. y < q) (sym (zero j)) (rings.some_code A L);
    unused = λ j h. zero j;
    past = λ k h. refl;
    below = λ b. b;
    clear = λ E j h. absurd (omega arith);
    added = λ few b vector V k h. sym (rings.plus_zero A L (b k));
  }

  module _ (w : ℕ) (before : List Line) (l : Line) (image image₁ codes₁ : List ℕ) (C : Cleared A w before image image₁ codes₁) where
    -- a relation changes nothing
    pub relation_passed : is_stair l ≡ false → Cleared A w (before ++ l ∷ []) image image₁ codes₁
    relation_passed f =
        let e = sym (stairs_same before l f) in
        record {
          codes_below = C.codes_below;
          unused = subst (λ (x : List Line). (j : ℕ) → length x ≤ j → get_or codes₁ j 0 ≡ 0) e C.unused;
          past = C.past;
          below = C.below;
          clear = λ E. subst (λ (x : List Line). (j : ℕ) → j < length x → get_or image₁ (line x j).pivot 0 ≡ 0) e (C.clear (echelon_before w q before l E));
          added = subst (λ (x : List Line). length x ≤ 64 → ((k : ℕ) → get_or image k 0 < q) → (vector : ℕ → ℕ → ℕ) → CombinedOf A w x vector → (k : ℕ) → k < w →
              get_or image₁ k 0 ≡ get_or image k 0 ⊕ total A (length x) (λ j. get_or codes₁ j 0 ⊗ vector j k)) e C.added;
        }

    module _ (t : is_stair l ≡ true) where
      -- how many stairs there are then
      more : length (stairs_of (before ++ l ∷ [])) ≡ length (stairs_of before) + 1
      more = stairs_length before l t

      -- nor does a stair past the 64 that have a place
      pub stair_passed : w ≤ 64 → 64 ≤ length (stairs_of before) → Cleared A w (before ++ l ∷ []) image image₁ codes₁
      stair_passed b h = record {
        codes_below = C.codes_below;
        unused = λ j g. C.unused j (omega (arith, more));
        past = C.past;
        below = C.below;
        clear = λ E. absurd (omega (arith, more, few_stairs w q (before ++ l ∷ []) E));
        added = λ few. absurd (omega (arith, more));
      }

      -- the vectors of the stairs before it
      combined_before : (vector : ℕ → ℕ → ℕ) → CombinedOf A w (stairs_of (before ++ l ∷ [])) vector → CombinedOf A w (stairs_of before) vector
      combined_before vector V j h =
          subst (λ (s : Line). (k : ℕ) → k < w → get_or s.image k 0 ≡ vector j k ⊕ total A j (λ i. get_or s.combination i 0 ⊗ vector i k))
          (stair_old before l t j h) (V j (omega (arith, more)))

      -- its own vector
      combined_last : (vector : ℕ → ℕ → ℕ) → CombinedOf A w (stairs_of (before ++ l ∷ [])) vector → (k : ℕ) → k < w →
          get_or l.image k 0 ≡ vector (length (stairs_of before)) k ⊕ total A (length (stairs_of before)) (λ i. get_or l.combination i 0 ⊗ vector i k)
      combined_last vector V =
          subst (λ (s : Line). (k : ℕ) → k < w → get_or s.image k 0 ≡ vector (length (stairs_of before)) k ⊕ total A (length (stairs_of before)) (λ i. get_or s.combination i 0 ⊗ vector i k))
          (stair_new before l t (length (stairs_of before)) refl) (V (length (stairs_of before)) (omega (arith, more)))

      -- a stair is cleared
      pub stair_cleared : (image₂ codes₂ : List ℕ) (x : ℕ) → Eliminated A w (length (stairs_of before)) l image₁ codes₁ image₂ codes₂ x → Cleared A w (before ++ l ∷ []) image image₂ codes₂
      stair_cleared image₂ codes₂ x E = record {
        codes_below = λ j. elim (cases_order j (length (stairs_of before))) [
          | inl e ↦ subst (λ y. y < q) (sym (ap (λ i. get_or codes₂ i 0) e ∙ E.own)) E.below
          | inr (inl h) ↦ subst (λ y. y < q) (sym (E.earlier j h)) (L.sum_below _ _)
          | inr (inr h) ↦ subst (λ y. y < q) (sym (E.later j h)) (C.codes_below j)
        ];
        unused = λ j h. E.later j (omega (arith, more)) ∙ C.unused j (omega (arith, more));
        past = λ k h. E.images.rest k h ∙ C.past k h;
        below = λ b k. elim (cases_lt k w) [
          | inl h ↦ subst (λ y. y < q) (sym (E.images.live k h)) (L.sum_below _ _)
          | inr h ↦ subst (λ y. y < q) (sym (E.images.rest k h)) (C.below b k)
        ];
        clear = λ H j h.
            let F : FitsAfter w q before l = echelon_last w q before l H in
            let B : Echelon w q before = echelon_before w q before l H in
            elim (cases_eq j (length (stairs_of before))) [
              | inl e ↦
                  ap (λ (s : Line). get_or image₂ s.pivot 0) (stair_new before l t j e) ∙
                  E.cleared (F.inside t) (λ z. F.alive t (sym (mod-eq_of_lt (F.image l.pivot)) ∙ z))
              | inr d ↦
                  let b : j < length (stairs_of before) = omega (arith, more) in
                  ap (λ (s : Line). get_or image₂ s.pivot 0) (stair_old before l t j b) ∙
                  E.images.live (line (stairs_of before) j).pivot (stair_inside w q before B j b) ∙
                  zero_plus_zero x (C.clear B j b) (F.clear j b)
            ];
        added = λ few b vector V k h.
            let n : ℕ = length (stairs_of before) in
            let e : suc n ≡ length (stairs_of (before ++ l ∷ [])) = omega (arith, more) in
            E.images.live k h ∙
            ap₂ (λ y z. y ⊕ x ⊗ z) (C.added (omega arith) b vector (combined_before vector V) k h) (combined_last vector V k h) ∙
            vector_more n (get_or image k 0) x (λ j. get_or codes₁ j 0) (λ j. get_or codes₂ j 0) (λ j. get_or l.combination j 0) (λ j. vector j k) E.earlier E.own ∙
            ap (λ m. get_or image k 0 ⊕ total A m (λ j. get_or codes₂ j 0 ⊗ vector j k)) e;
      }
