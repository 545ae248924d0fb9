-- To a vector a combination of vectors in echelon form can be added that clears every pivot, and only one.
use Rattle.std.proofs.Common.{◌≡◌, ℕ, zero, suc, ◌%◌, ◌<◌, ◌≤◌, cond, eqb, sym, ap, ◌∙◌, ap₂, inl, inr, mod-eq_of_lt, arith}
use Rattle.std.proofs.lemmas.Bool.{cases_eq, eq-eqb, ne_eqb, cond-true, cond-false, cond_both}
use Rattle.fields.specs.Arithmetic.{Arithmetic, FieldLaws, total}
use Rattle.fields.proofs.Rings as rings
use Rattle.fields.proofs.Totals as totals
use Rattle.fields.proofs.Triangles.{Echelon, independent_below}

module _ (A : Arithmetic) (L : FieldLaws A) (n : ℕ) (x : ℕ → ℕ → ℕ) (E : Echelon A n x) where
  infixl 60 ◌⊕◌
  infixl 70 ◌⊗◌
  infixl 80 ⊖◌
  open A use {sum as ◌⊕◌, product as ◌⊗◌, negative as ⊖◌, order as q}
  open E use {code as c, row, pivot}
  open L use {ring as R}

  -- the vector and a combination of the first m, at a pivot
  abbrev pub value : (ℕ → ℕ) → ℕ → (ℕ → ℕ) → ℕ → ℕ
  value v m e i = v (pivot i) ⊕ total A m (λ j. e j ⊗ x j (pivot i))

  -- the combination clears the first m pivots
  abbrev pub Clears : (ℕ → ℕ) → ℕ → (ℕ → ℕ) → Type 0
  Clears v m e = (i : ℕ) → i < m → value v m e i ≡ 0

  -- the codes with a multiple of row m
  more : ℕ → (ℕ → ℕ) → ℕ → ℕ → ℕ
  more m e d j = cond (eqb j m) d (e j ⊕ d ⊗ c m j)

  -- what they give
  value_more : (v : ℕ → ℕ) (m : ℕ) (e : ℕ → ℕ) (d i : ℕ) → m < n → i < n → value v (suc m) (more m e d) i ≡ value v m e i ⊕ d ⊗ row m (pivot i)
  unfolding more
  value_more v m e d i l k =
      let y : ℕ → ℕ = λ j. x j (pivot i) in
      let T : ℕ = total A m (λ j. e j ⊗ y j) in
      let C : ℕ = total A m (λ j. c m j ⊗ y j) in
      let front : total A m (λ j. more m e d j ⊗ y j) ≡ T ⊕ d ⊗ C =
      totals.total_same A m (λ j. more m e d j ⊗ y j) (λ j. (e j ⊕ d ⊗ c m j) ⊗ y j)
      (λ j h. ap (λ z. z ⊗ y j) (cond-false (eqb j m) d (e j ⊕ d ⊗ c m j) (ne_eqb j m (omega arith)))) ∙
      totals.total_spread A R m d e (c m) y in
      let last : more m e d m ⊗ y m ≡ d ⊗ y m = ap (λ z. z ⊗ y m) (cond-true (eqb m m) d (e m ⊕ d ⊗ c m m) (eq-eqb m m (omega arith))) in
      ap₂ (λ a b. v (pivot i) ⊕ (a ⊕ b)) front last ∙
      ap (λ z. v (pivot i) ⊕ z) (R.sum_assoc T (d ⊗ C) (d ⊗ y m)) ∙
      sym (R.sum_assoc (v (pivot i)) T (d ⊗ C ⊕ d ⊗ y m)) ∙
      ap (λ z. v (pivot i) ⊕ T ⊕ z) (R.sum_comm (d ⊗ C) (d ⊗ y m) ∙ sym (R.distributes d (y m) C) ∙ ap (λ z. d ⊗ z) (sym (E.reads i m k l)))

  -- some multiple of a code other than 0 clears a code
  pub clearing : (w r : ℕ) → w < q → (r % q ≡ 0 → ⊥) → (d : ℕ) × (d < q) × (w ⊕ d ⊗ r ≡ 0)
  clearing w r h alive =
      let (b, e) = L.inverse r alive in (
        ⊖ 1 ⊗ (w ⊗ b),
        R.product_below (⊖ 1) (w ⊗ b),
        ap (λ z. w ⊕ z)
            (R.product_assoc (⊖ 1) (w ⊗ b) r ∙
            ap (λ z. ⊖ 1 ⊗ z) (R.product_assoc w b r ∙ ap (λ z. w ⊗ z) (R.product_comm b r ∙ e) ∙ R.product_one w ∙ mod-eq_of_lt h)) ∙
            rings.difference A R w,
      )

  -- the pivots are cleared one after the other
  pub cleared : (v : ℕ → ℕ) (m : ℕ) → m ≤ n → (e : ℕ → ℕ) × ((j : ℕ) → e j < q) × Clears v m e
  unfolding more
  cleared v zero h = ((λ j. 0), (λ j. rings.some_code A R), λ i l. absurd (omega arith))
  cleared v (suc m) h =
      let (e, below, clear) = cleared v m (omega arith) in
      let (d, small, gone) = clearing (value v m e m) (row m (pivot m)) (R.sum_below (v (pivot m)) (total A m (λ j. e j ⊗ x j (pivot m)))) (E.alive m h) in (
        more m e d,
        (λ j. cond_both (eqb j m) d (e j ⊕ d ⊗ c m j) (λ z. z < q) (λ _. small) (λ _. R.sum_below (e j) (d ⊗ c m j))),
        (λ i l. value_more v m e d i h (omega arith) ∙ elim (cases_eq i m) [
          | inl k ↦ ap (λ z. value v m e z ⊕ d ⊗ row m (pivot z)) k ∙ gone
          | inr k ↦
              ap₂ (λ a b. a ⊕ d ⊗ b) (clear i (omega arith)) (E.clear i m (omega arith) h) ∙
              ap (λ z. 0 ⊕ z) (rings.product_zero A R d) ∙
              rings.plus_zero A R (rings.some_code A R)
        ]),
      )

  -- two combinations that clear have the same codes
  pub cleared_once : (v : ℕ → ℕ) (e f : ℕ → ℕ) → Clears v n e → Clears v n f → (j : ℕ) → j < n → e j % q ≡ f j % q
  cleared_once v e f he hf j l =
      let gap : ℕ → ℕ = λ j. e j ⊕ ⊖ 1 ⊗ f j in
      rings.same_rest A R (e j) (f j)
      (sym (mod-eq_of_lt (R.sum_below (e j) (⊖ 1 ⊗ f j))) ∙
      independent_below A L n x E n (omega arith) gap
      (λ i k.
      let y : ℕ → ℕ = λ j. x j (pivot i) in
      let a : ℕ = total A n (λ j. e j ⊗ y j) in
      let b : ℕ = total A n (λ j. f j ⊗ y j) in
      let same : a ≡ b =
      sym (mod-eq_of_lt (totals.total_below A R n (λ j. e j ⊗ y j))) ∙
      rings.cancel A R (v (pivot i)) a b (he i k ∙ sym (hf i k)) ∙
      mod-eq_of_lt (totals.total_below A R n (λ j. f j ⊗ y j)) in
      totals.total_spread A R n (⊖ 1) e f y ∙ ap (λ z. z ⊕ ⊖ 1 ⊗ b) same ∙ rings.difference A R b)
      j l)
