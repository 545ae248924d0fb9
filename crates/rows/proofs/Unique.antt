-- After lines that stand, the line of a monomial is settled: its codes, its image, its verdict and its pivot.
use Rattle.std.proofs.Common.{◌≡◌, ℕ, zero, suc, ◌<◌, List, length, get_or, sym, ap, ◌∙◌, subst, ap₂, inl, inr, mod-eq_of_lt, arith}
use Rattle.std.proofs.lemmas.Bool.{cases_Bool, cases_lt}
use Rattle.std.proofs.lemmas.List.{ext_get_or}
use Rattle.fields.specs.Arithmetic.{Arithmetic, FieldLaws}
use Rattle.fields.proofs.Totals as totals
use Rattle.fields.proofs.Clearings.{Clears, cleared_once}
use Rattle.polynomials.specs.Subjects.{SubjectMeaning, SubjectLaws}
use Rattle.rows.specs.declared.line.Line.{Line}
use Rattle.rows.specs.Lines.{monomial_of, is_stair, stairs_of, Stands, AllStand}
use Rattle.rows.proofs.Readings.{stair}
use Rattle.rows.proofs.Echelons.{echelon, image_after, line_clears}
use Rattle.rows.proofs.Verdicts.{verdict_stair, verdict_relation, stair_says, relation_says}

-- what holds of four numbers
four : (P : ℕ → Type 0) → P 0 → P 1 → P 2 → P 3 → (i : ℕ) → i < 4 → P i
four P p0 p1 p2 p3 zero h = p0
four P p0 p1 p2 p3 (suc zero) h = p1
four P p0 p1 p2 p3 (suc (suc zero)) h = p2
four P p0 p1 p2 p3 (suc (suc (suc zero))) h = p3
four P p0 p1 p2 p3 (suc (suc (suc (suc i)))) h = absurd (omega arith)

-- lines of equal parts are equal
line_path : {l m : Line} → l.monomial.exponents ≡ m.monomial.exponents → l.verdict ≡ m.verdict →
    l.combination ≡ m.combination → l.image ≡ m.image → l.pivot ≡ m.pivot → l ≡ m
line_path pe pv pc pi pp = λ i. record { monomial = record { exponents = pe i }; verdict = pv i; combination = pc i; image = pi i; pivot = pp i }

module _ (S : SubjectMeaning) (M : SubjectLaws S) (A : Arithmetic) (L : FieldLaws A) (row : List Line) (W : AllStand S A row) (l m : Line)
    (s : Stands S A row l) (t : Stands S A row m) (same : monomial_of l ≡ monomial_of m) where
  infixl 60 ◌⊕◌
  infixl 70 ◌⊗◌
  open A use {sum as ◌⊕◌, product as ◌⊗◌, order as q}

  -- the exponents
  same_exponents : l.monomial.exponents ≡ m.monomial.exponents
  same_exponents = ext_get_or 0 l.monomial.exponents m.monomial.exponents (s.full.exponents ∙ sym t.full.exponents)
      (λ i h. four (λ i. get_or l.monomial.exponents i 0 ≡ get_or m.monomial.exponents i 0)
      (ap (λ a. a.e0) same) (ap (λ a. a.e1) same) (ap (λ a. a.e2) same) (ap (λ a. a.e3) same) i (omega (arith, s.full.exponents)))

  -- the codes, place by place
  same_codes : (j : ℕ) → get_or l.combination j 0 ≡ get_or m.combination j 0
  same_codes j = elim (cases_lt j (length (stairs_of row))) [
    | inl h ↦
        sym (mod-eq_of_lt (s.codes j)) ∙
        cleared_once A L (length (stairs_of row)) (λ j k. S.image A (stair row j) k) (echelon S M A L row W) (S.image A (monomial_of l))
        (λ j. get_or l.combination j 0) (λ j. get_or m.combination j 0) (line_clears S M A L row W l s)
        (subst (λ a. Clears A L (length (stairs_of row)) (λ j k. S.image A (stair row j) k) (echelon S M A L row W) (S.image A a) (length (stairs_of row)) (λ j. get_or m.combination j 0))
        (sym same) (line_clears S M A L row W m t))
        j h ∙
        mod-eq_of_lt (t.codes j)
    | inr h ↦ s.unused j h ∙ sym (t.unused j h)
  ]

  -- the image, place by place
  same_image : (k : ℕ) → get_or l.image k 0 ≡ get_or m.image k 0
  same_image k = elim (cases_lt k S.width) [
    | inl h ↦
        image_after S M A L row W l s k h ∙
        ap₂ ◌⊕◌ (ap (λ a. S.image A a k) same)
        (totals.total_same A (length (stairs_of row)) _ _ (λ j b. ap (λ c. c ⊗ S.image A (stair row j) k) (same_codes j))) ∙
        sym (image_after S M A L row W m t k h)
    | inr h ↦ s.past k h ∙ sym (t.past k h)
  ]

  -- two numbers of which none is below the other
  neither_below : (a b : ℕ) → (a < b → ⊥) → (b < a → ⊥) → a ≡ b
  neither_below a b f g = omega arith

  -- the verdict and the pivot
  same_verdict : (l.verdict ≡ m.verdict) × (l.pivot ≡ m.pivot)
  same_verdict = elim (cases_Bool (is_stair l)) [
    | inl e ↦ elim (cases_Bool (is_stair m)) [
      | inl f ↦
          let (_, ln, lz) = stair_says S A row l s e in
          let (_, mn, mz) = stair_says S A row m t f in (
            verdict_stair l e ∙ sym (verdict_stair m f),
            neither_below l.pivot m.pivot (λ h. ln (same_image l.pivot ∙ mz l.pivot h)) (λ h. mn (sym (same_image m.pivot) ∙ lz m.pivot h)),
          )
      | inr f ↦ absurd ((stair_says S A row l s e).1 (same_image l.pivot ∙ (relation_says S A row m t f).1 l.pivot))
    ]
    | inr e ↦ elim (cases_Bool (is_stair m)) [
      | inl f ↦ absurd ((stair_says S A row m t f).1 (sym (same_image m.pivot) ∙ (relation_says S A row l s e).1 m.pivot))
      | inr f ↦ (verdict_relation l e ∙ sym (verdict_relation m f), (relation_says S A row l s e).0 ∙ sym (relation_says S A row m t f).0)
    ]
  ]

  -- the line
  pub same_line : l ≡ m
  same_line = line_path same_exponents same_verdict.0
      (ext_get_or 0 l.combination m.combination (s.full.combination ∙ sym t.full.combination) (λ j _. same_codes j))
      (ext_get_or 0 l.image m.image (s.full.image ∙ sym t.full.image) (λ k _. same_image k))
      same_verdict.1
