-- Lines in echelon form: their pivots differ, so there are at most as many stairs as positions; a front of them, one line more,
-- and lines that stand are in echelon form.
use Rattle.std.proofs.Common.{◌≡◌, ℕ, ◌+◌, ◌<◌, ◌≤◌, true, false, cond, List, [], ◌∷◌, ◌++◌, length, get_or, take, sym, refl, ap, ◌∙◌, subst, subst₂, inl, inr, arith}
use Rattle.std.proofs.lemmas.Bool.{cases_lt}
use Rattle.std.proofs.lemmas.List.{length_push, length-take-le, get_or-take, take-take, take_at}
use Rattle.std.proofs.lemmas.List.Filters.{length-filter_more}
use Rattle.fields.specs.Arithmetic.{Arithmetic, FieldLaws}
use Rattle.fields.proofs.Rings as rings
use Rattle.fields.proofs.Counting.{pigeons}
use Rattle.polynomials.specs.Subjects.{SubjectMeaning}
use Rattle.polynomials.proofs.Polynomials.{applied_below}
use Rattle.rows.specs.declared.line.Line.{Line}
use Rattle.rows.specs.Lines.{blank, line, is_stair, stairs_of, polynomial, Stands, AllStand}
use Rattle.rows.proofs.Ranks.{rank, kept_at, rank_before, rank_rises}
use Rattle.rows.proofs.Readings.{Placed, placed}
use Rattle.rows.proofs.Readings
use Rattle.rows.proofs.Pushes.{new_line, cases_place}
use Rattle.rows.proofs.Verdicts.{stair_says, relation_says}
use Rattle.elimination.specs.Echelons.{Echelon}

module _ (w q : ℕ) (lines : List Line) (E : Echelon w q lines) where
  -- what echelon form says of a stair, by its number
  pub stair_inside : (j : ℕ) → j < length (stairs_of lines) → (line (stairs_of lines) j).pivot < w
  stair_inside j h =
      let P : Placed is_stair lines j = placed is_stair lines j h in
      subst (λ (l : Line). l.pivot < w) (sym P.same_line) (E.inside P.at P.inside P.passes)

  pub stair_alive : (j : ℕ) → j < length (stairs_of lines) → get_or (line (stairs_of lines) j).image (line (stairs_of lines) j).pivot 0 ≡ 0 → ⊥
  stair_alive j h =
      let P : Placed is_stair lines j = placed is_stair lines j h in
      subst (λ (l : Line). get_or l.image l.pivot 0 ≡ 0 → ⊥) (sym P.same_line) (E.alive P.at P.inside P.passes)

  pub stair_below : (j : ℕ) → j < length (stairs_of lines) → (k : ℕ) → get_or (line (stairs_of lines) j).image k 0 < q
  stair_below j h =
      let P : Placed is_stair lines j = placed is_stair lines j h in
      subst (λ (l : Line). (k : ℕ) → get_or l.image k 0 < q) (sym P.same_line) (E.images P.at P.inside)

  -- a line is zero at the pivots of the stairs before it
  pub line_clear : (i : ℕ) → i < length lines → (j : ℕ) → j < length (stairs_of (take i lines)) → get_or (line lines i).image (line (stairs_of lines) j).pivot 0 ≡ 0
  line_clear i l j h =
      let P : Placed is_stair lines j = placed is_stair lines j (omega (arith, Readings.rank_all is_stair lines i)) in
      let b : P.at < i = rank_before is_stair lines P.at i (omega (arith, P.ranked)) in
      ap (λ (s : Line). get_or (line lines i).image s.pivot 0) P.same_line ∙ E.clear P.at i b l P.passes

  -- so is a stair
  pub stair_clear : (i j : ℕ) → i < j → j < length (stairs_of lines) → get_or (line (stairs_of lines) j).image (line (stairs_of lines) i).pivot 0 ≡ 0
  stair_clear i j h l =
      let P : Placed is_stair lines j = placed is_stair lines j l in
      ap (λ (s : Line). get_or s.image (line (stairs_of lines) i).pivot 0) P.same_line ∙ line_clear P.at P.inside i (omega (arith, P.ranked))

  -- the pivots of stairs differ
  pub pivots_apart : (i j : ℕ) → i < j → j < length (stairs_of lines) → (line (stairs_of lines) i).pivot ≡ (line (stairs_of lines) j).pivot → ⊥
  pivots_apart i j h l e = stair_alive j l (ap (λ k. get_or (line (stairs_of lines) j).image k 0) (sym e) ∙ stair_clear i j h l)

  -- there are no more stairs than positions
  pub few_stairs : length (stairs_of lines) ≤ w
  few_stairs = pigeons (length (stairs_of lines)) w (λ j. (line (stairs_of lines) j).pivot) stair_inside pivots_apart

-- what a line after lines in echelon form must keep
pub record FitsAfter (w q : ℕ) (before : List Line) (l : Line) : Type 0 where
  pub inside : is_stair l ≡ true → l.pivot < w
  pub alive : is_stair l ≡ true → get_or l.image l.pivot 0 ≡ 0 → ⊥
  pub first : is_stair l ≡ true → (k : ℕ) → k < l.pivot → get_or l.image k 0 ≡ 0
  pub clear : (j : ℕ) → j < length (stairs_of before) → get_or l.image (line (stairs_of before) j).pivot 0 ≡ 0
  pub ended : is_stair l ≡ false → l.pivot ≡ 64
  pub zero : is_stair l ≡ false → (k : ℕ) → get_or l.image k 0 ≡ 0
  pub combination : (j : ℕ) → get_or l.combination j 0 < q
  pub image : (k : ℕ) → get_or l.image k 0 < q
  pub narrow : (k : ℕ) → w ≤ k → get_or l.image k 0 ≡ 0
  pub short : (j : ℕ) → length (stairs_of before) ≤ j → get_or l.combination j 0 ≡ 0

-- lines in echelon form are those of which each fits after those before it
pub echelon_by_lines : (w q : ℕ) (lines : List Line) → ((i : ℕ) → i < length lines → FitsAfter w q (take i lines) (line lines i)) → Echelon w q lines
echelon_by_lines w q lines F = record {
  inside = λ i h. (F i h).inside;
  alive = λ i h. (F i h).alive;
  first = λ i h. (F i h).first;
  clear = λ i j g h t.
      let (b, e) = kept_at is_stair lines i blank (omega arith) t in
      let r : rank is_stair lines i < rank is_stair lines j = rank_more lines i j g h t in
      ap (λ (s : Line). get_or (line lines j).image s.pivot 0) (sym (sym (Readings.early_line is_stair lines j (rank is_stair lines i) r) ∙ e)) ∙ (F j h).clear (rank is_stair lines i) r;
  ended = λ i h. (F i h).ended;
  zero = λ i h. (F i h).zero;
  combinations = λ i h. (F i h).combination;
  images = λ i h. (F i h).image;
  narrow = λ i h. (F i h).narrow;
  short = λ i h. (F i h).short;
}
  where
    -- past a stair, ranks are higher
    rank_more : (lines : List Line) (i j : ℕ) → i < j → j < length lines → is_stair (line lines i) ≡ true → rank is_stair lines i < rank is_stair lines j
    rank_more lines i j g h t = omega (arith, rank_rises is_stair lines (i + 1) j (omega arith), length-filter_more is_stair lines i blank (omega arith) ∙ ap (λ b. rank is_stair lines i + cond b 1 0) t)

-- and back
pub fits_in : (w q : ℕ) (lines : List Line) → Echelon w q lines → (i : ℕ) → i < length lines → FitsAfter w q (take i lines) (line lines i)
fits_in w q lines E i h = record {
  inside = E.inside i h;
  alive = E.alive i h;
  first = E.first i h;
  clear = λ j b. ap (λ (s : Line). get_or (line lines i).image s.pivot 0) (sym (Readings.early_line is_stair lines i j b)) ∙ line_clear w q lines E i h j b;
  ended = E.ended i h;
  zero = E.zero i h;
  combination = E.combinations i h;
  image = E.images i h;
  narrow = E.narrow i h;
  short = E.short i h;
}

-- no lines
pub echelon_none : (w q : ℕ) → Echelon w q []
echelon_none w q = echelon_by_lines w q [] (λ i h. absurd (omega arith))

-- a front of the lines
pub echelon_front : (w q : ℕ) (lines : List Line) → Echelon w q lines → (n : ℕ) → n ≤ length lines → Echelon w q (take n lines)
echelon_front w q lines E n b = echelon_by_lines w q (take n lines)
    (λ i h.
    let inner : i < n = omega (arith, length-take-le n lines b) in
    subst₂ (FitsAfter w q) (sym (take-take i n lines (omega arith))) (sym (get_or-take n lines i blank inner)) (fits_in w q lines E i (omega arith)))

-- one line less
pub echelon_before : (w q : ℕ) (before : List Line) (l : Line) → Echelon w q (before ++ l ∷ []) → Echelon w q before
echelon_before w q before l E =
    subst (Echelon w q) (take_at before (l ∷ []) (length before) refl)
    (echelon_front w q (before ++ l ∷ []) E (length before) (omega (arith, length_push before l)))

-- the last line
pub echelon_last : (w q : ℕ) (before : List Line) (l : Line) → Echelon w q (before ++ l ∷ []) → FitsAfter w q before l
echelon_last w q before l E =
    subst₂ (FitsAfter w q) (take_at before (l ∷ []) (length before) refl) (new_line before l)
    (fits_in w q (before ++ l ∷ []) E (length before) (omega (arith, length_push before l)))

-- one line more
pub echelon_push : (w q : ℕ) (before : List Line) → Echelon w q before → (l : Line) → FitsAfter w q before l → Echelon w q (before ++ l ∷ [])
echelon_push w q before E l F = echelon_by_lines w q (before ++ l ∷ [])
    (λ i h. elim (cases_place before l i h) [
      | inl (b, e, t) ↦ subst₂ (FitsAfter w q) (sym t) (sym e) (fits_in w q before E i b)
      | inr (_, e, t) ↦ subst₂ (FitsAfter w q) (sym t) (sym e) F
    ])

module _ (S : SubjectMeaning) (A : Arithmetic) (L : FieldLaws A) where
  -- a line that stands fits
  stands_fits : (before : List Line) (l : Line) → Stands S A before l → FitsAfter S.width A.order before l
  stands_fits before l s = record {
    inside = λ t. (stair_says S A before l s t).0;
    alive = λ t. (stair_says S A before l s t).1;
    first = λ t. (stair_says S A before l s t).2;
    clear = s.clear;
    ended = λ f. (relation_says S A before l s f).0;
    zero = λ f. (relation_says S A before l s f).1;
    combination = s.codes;
    image = λ k. elim (cases_lt k S.width) [
      | inl h ↦ subst (λ x. x < A.order) (sym (s.image k h)) (applied_below A L.ring (λ a. S.image A a k) (polynomial before l))
      | inr h ↦ subst (λ x. x < A.order) (sym (s.past k h)) (rings.some_code A L.ring)
    ];
    narrow = s.past;
    short = s.unused;
  }

  -- lines that stand are in echelon form
  pub standing_echelon : (lines : List Line) → AllStand S A lines → Echelon S.width A.order lines
  standing_echelon lines W = echelon_by_lines S.width A.order lines (λ i h. stands_fits (take i lines) (line lines i) (W i h))
