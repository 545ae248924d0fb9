-- A line whose image has been cleared stands where the lines before it do, and keeps their echelon form.
use Rattle.std.proofs.Common.{◌≡◌, ℕ, ◌<◌, ◌≤◌, min, true, false, List, [], ◌∷◌, ◌++◌, length, get_or, take, sym, ap, ◌∙◌, subst, ap₂, inl, inr, mod-eq_of_lt, arith}
use Rattle.std.proofs.lemmas.Bool.{cases_lt}
use Rattle.fields.specs.Arithmetic.{Arithmetic, FieldLaws, total}
use Rattle.fields.proofs.Rings as rings
use Rattle.polynomials.specs.Subjects.{SubjectMeaning, SubjectLaws}
use Rattle.rows.specs.declared.line.Line.{Line}
use Rattle.rows.specs.declared.verdict.Verdict.TheVariants.{Stair as stair, Relation as relation}
use Rattle.rows.specs.Lines.{monomial_of, line, is_stair, stairs_of, Says, FullLength, Stands, AllStand}
use Rattle.rows.proofs.Readings.{Placed, placed}
use Rattle.rows.proofs.Readings
use Rattle.rows.proofs.Verdicts.{verdict_stair, verdict_relation}
use Rattle.elimination.specs.Echelons.{Echelon}
use Rattle.elimination.specs.Images.{Holds}
use Rattle.elimination.specs.Clearings.{CombinedOf, Cleared}
use Rattle.elimination.proofs.Arrays.{holds_below}
use Rattle.elimination.proofs.Echelons.{FitsAfter, few_stairs, echelon_push, standing_echelon}

module _ (S : SubjectMeaning) (M : SubjectLaws S) (A : Arithmetic) (L : FieldLaws A) where
  infixl 60 ◌⊕◌
  infixl 70 ◌⊗◌
  open A use {sum as ◌⊕◌, product as ◌⊗◌, order as q}

  -- the images of the stairs of lines that stand are combined of the images of their monomials
  pub combined : (row : List Line) → AllStand S A row → CombinedOf A S.width (stairs_of row) (λ j k. S.image A (Readings.stair row j) k)
  combined row W j h k b =
      let P : Placed is_stair row j = placed is_stair row j h in
      let l : Line = line (stairs_of row) j in
      let s : Stands S A (take P.at row) l = subst (Stands S A (take P.at row)) (sym P.same_line) (W P.at P.inside) in
      s.image k b ∙
      Readings.reads_early A L.ring row P.at l (λ a. S.image A a k) ∙
      ap₂ ◌⊕◌
      (rings.one_product A L.ring (S.image A (monomial_of l) k) ∙ mod-eq_of_lt (M.below A L (monomial_of l) k) ∙
      ap (λ a. S.image A a k) (sym (Readings.mono_line is_stair row j h)))
      (ap (λ m. total A m (λ i. get_or l.combination i 0 ⊗ S.image A (Readings.stair row i) k)) P.ranked)

  module _ (before : List Line) (l : Line) (v : List ℕ) (H : Holds S.width (S.image A (monomial_of l)) v)
      (C : Cleared A S.width before v l.image l.combination) (says : Says l.verdict l) where
    -- the image before clearing is of codes
    start_below : (k : ℕ) → get_or v k 0 < q
    start_below = holds_below S.width q (S.image A (monomial_of l)) v H (rings.some_code A L.ring) (M.below A L (monomial_of l))

    -- past the width it is zero
    past : (k : ℕ) → S.width ≤ k → get_or l.image k 0 ≡ 0
    past k h = C.past k h ∙ H.past k h

    -- it stands
    made_stands : FullLength l → AllStand S A before → Stands S A before l
    made_stands full W =
        let E : Echelon S.width q before = standing_echelon S A L before W in
        let few : length (stairs_of before) ≤ 64 = omega (arith, M.narrow, few_stairs S.width q before E) in
        record {
          full = full;
          codes = C.codes_below;
          unused = C.unused;
          image = λ k h.
              C.added few start_below (λ j k. S.image A (Readings.stair before j) k) (combined before W) k h ∙
              ap₂ ◌⊕◌
              (H.inside k h ∙ sym (rings.one_product A L.ring (S.image A (monomial_of l) k) ∙ mod-eq_of_lt (M.below A L (monomial_of l) k)))
              (sym (Readings.applied_on_stairs A L.ring (λ a. S.image A a k) (stairs_of before) l.combination));
          past = past;
          clear = C.clear E;
          says = says;
        }

    -- what a stair and a relation say
    stair_says : is_stair l ≡ true → Says stair l
    stair_says t = subst (λ x. Says x l) (verdict_stair l t) says

    relation_says : is_stair l ≡ false → Says relation l
    relation_says f = subst (λ x. Says x l) (verdict_relation l f) says

    -- it fits after lines in echelon form
    made_fits : Echelon S.width q before → FitsAfter S.width q before l
    made_fits E = record {
      inside = λ t. elim (cases_lt l.pivot S.width) [ inl h ↦ h | inr h ↦ absurd ((stair_says t).0 (past l.pivot h)) ];
      alive = λ t. (stair_says t).0;
      first = λ t. (stair_says t).1;
      clear = C.clear E;
      ended = λ f. (relation_says f).0;
      zero = λ f. (relation_says f).1;
      combination = C.codes_below;
      image = C.below start_below;
      narrow = past;
      short = C.unused;
    }

    -- so with it they are in echelon form
    made_echelon : Echelon S.width q before → Echelon S.width q (before ++ l ∷ [])
    made_echelon E = echelon_push S.width q before E l (made_fits E)

  -- both, for a width that was read
  pub made : (n : ℕ) → n ≡ S.width → (before : List Line) (l : Line) (v : List ℕ) → Holds S.width (S.image A (monomial_of l)) v →
      Cleared A (min n 64) before v l.image l.combination → FullLength l → Says l.verdict l →
      (AllStand S A before → Stands S A before l) × (Echelon S.width q before → Echelon S.width q (before ++ l ∷ []))
  made n e before l v H C full says =
      let same : min n 64 ≡ S.width = omega (arith, M.narrow) in
      let C' : Cleared A S.width before v l.image l.combination = subst (λ w. Cleared A w before v l.image l.combination) same C in
      (made_stands before l v H C' says full, made_echelon before l v H C' says)
