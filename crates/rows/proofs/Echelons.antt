-- After lines that stand, the stairs' images are in echelon form by their pivots: they are independent, there are no more
-- than positions, and in every vector some combination of them clears the pivots.
use Rattle.std.proofs.Common.{◌≡◌, ℕ, ◌%◌, ◌<◌, ◌≤◌, List, length, get_or, take, sym, ap, ◌∙◌, subst, ap₂, mod-eq_of_lt, arith}
use Rattle.fields.specs.Arithmetic.{Arithmetic, FieldLaws, total}
use Rattle.fields.proofs.Rings as rings
use Rattle.fields.proofs.Triangles.{Echelon, independent_below, pivots_apart}
use Rattle.fields.proofs.Clearings.{Clears, cleared}
use Rattle.fields.proofs.Counting.{pigeons}
use Rattle.polynomials.specs.Subjects.{SubjectMeaning, SubjectLaws}
use Rattle.polynomials.proofs.Polynomials as polynomials
use Rattle.rows.specs.declared.line.Line.{Line}
use Rattle.rows.specs.Lines.{monomial_of, line, is_stair, stairs_of, polynomial, Stands, AllStand}
use Rattle.rows.proofs.Ranks.{rank}
use Rattle.rows.proofs.Readings
use Rattle.rows.proofs.Readings.{stair, Placed, placed}
use Rattle.rows.proofs.Verdicts.{stair_says}

module _ (S : SubjectMeaning) (M : SubjectLaws S) (A : Arithmetic) (L : FieldLaws A) (row : List Line) (W : AllStand S A row) where
  infixl 60 ◌⊕◌
  infixl 70 ◌⊗◌
  open A use {sum as ◌⊕◌, product as ◌⊗◌, order as q}

  -- a stair stands on its line
  stair_line : (j : ℕ) → j < length (stairs_of row) → (i : ℕ) × (rank is_stair row i ≡ j) × Stands S A (take i row) (line (stairs_of row) j) ×
      (((line (stairs_of row) j).pivot < S.width) × (get_or (line (stairs_of row) j).image (line (stairs_of row) j).pivot 0 ≡ 0 → ⊥))
  stair_line j l =
      let P : Placed is_stair row j = placed is_stair row j l in
      let s : Stands S A (take P.at row) (line (stairs_of row) j) = subst (Stands S A (take P.at row)) (sym P.same_line) (W P.at P.inside) in
      (P.at, P.ranked, s, let h = stair_says S A (take P.at row) (line (stairs_of row) j) s (ap is_stair P.same_line ∙ P.passes) in (h.0, h.1))

  -- the stairs' images are in echelon form, by the pivots
  pub echelon : Echelon A (length (stairs_of row)) (λ j k. S.image A (stair row j) k)
  echelon = record {
    code = λ j i. get_or (line (stairs_of row) j).combination i 0;
    row = λ j k. get_or (line (stairs_of row) j).image k 0;
    pivot = λ j. (line (stairs_of row) j).pivot;
    reads = λ i j li lj.
        let l : Line = line (stairs_of row) j in
        let k : ℕ = (line (stairs_of row) i).pivot in
        let (a, r, s, _) = stair_line j lj in
        let (_, _, _, h) = stair_line i li in
        s.image k h.0 ∙
        Readings.reads_early A L.ring row a l (λ b. S.image A b k) ∙
        ap₂ ◌⊕◌
        (rings.one_product A L.ring (S.image A (monomial_of l) k) ∙ mod-eq_of_lt (M.below A L (monomial_of l) k) ∙
        ap (λ b. S.image A b k) (sym (Readings.mono_line is_stair row j lj)))
        (ap (λ m. total A m (λ i'. get_or l.combination i' 0 ⊗ S.image A (stair row i') k)) r);
    clear = λ i j h lj.
        let (a, r, s, _) = stair_line j lj in
        let b : i < rank is_stair row a = omega (arith, r) in
        ap (λ (m : Line). get_or (line (stairs_of row) j).image m.pivot 0) (Readings.early_line is_stair row a i b) ∙ s.clear i b;
    alive = λ j lj e.
        let (a, r, s, h) = stair_line j lj in
        let k : ℕ = (line (stairs_of row) j).pivot in
        h.1 (sym (mod-eq_of_lt (subst (λ x. x < q) (sym (s.image k h.0)) (polynomials.applied_below A L.ring (λ b. S.image A b k) (polynomial (take a row) (line (stairs_of row) j))))) ∙ e);
  }

  -- the stairs' images are independent
  pub stairs_independent : (e : ℕ → ℕ) → ((k : ℕ) → k < S.width → total A (length (stairs_of row)) (λ j. e j ⊗ S.image A (stair row j) k) ≡ 0) →
      (j : ℕ) → j < length (stairs_of row) → e j % q ≡ 0
  unfolding echelon
  stairs_independent e h = independent_below A L (length (stairs_of row)) (λ j k. S.image A (stair row j) k) echelon (length (stairs_of row)) (omega arith) e
      (λ i l. h (line (stairs_of row) i).pivot (stair_line i l).3.0)

  -- there are no more stairs than positions
  pub few_stairs : length (stairs_of row) ≤ S.width
  unfolding echelon
  few_stairs = pigeons (length (stairs_of row)) S.width (λ j. (line (stairs_of row) j).pivot) (λ j l. (stair_line j l).3.0)
      (pivots_apart A L (length (stairs_of row)) (λ j k. S.image A (stair row j) k) echelon)

  -- the image of a line that stands after the row: its monomial's, and its codes on those of the stairs
  pub image_after : (l : Line) → Stands S A row l → (k : ℕ) → k < S.width →
      get_or l.image k 0 ≡ S.image A (monomial_of l) k ⊕ total A (length (stairs_of row)) (λ j. get_or l.combination j 0 ⊗ S.image A (stair row j) k)
  image_after l s k h =
      s.image k h ∙
      ap₂ ◌⊕◌
      (rings.one_product A L.ring (S.image A (monomial_of l) k) ∙ mod-eq_of_lt (M.below A L (monomial_of l) k))
      (Readings.applied_on_stairs A L.ring (λ a. S.image A a k) (stairs_of row) l.combination)

  -- its codes clear the pivots
  pub line_clears : (l : Line) → Stands S A row l →
      Clears A L (length (stairs_of row)) (λ j k. S.image A (stair row j) k) echelon (S.image A (monomial_of l)) (length (stairs_of row)) (λ j. get_or l.combination j 0)
  unfolding echelon
  line_clears l s i h = sym (image_after l s (line (stairs_of row) i).pivot (stair_line i h).3.0) ∙ s.clear i h

  -- a stair's pivot is a position
  pub pivot_inside : (i : ℕ) → i < length (stairs_of row) → (line (stairs_of row) i).pivot < S.width
  pivot_inside i h = (stair_line i h).3.0

  -- codes that clear the pivots in a vector
  pub clearing_codes : (v : ℕ → ℕ) → (e : ℕ → ℕ) × ((j : ℕ) → e j < q) × ((i : ℕ) → i < length (stairs_of row) →
      v (line (stairs_of row) i).pivot ⊕ total A (length (stairs_of row)) (λ j. e j ⊗ S.image A (stair row j) (line (stairs_of row) i).pivot) ≡ 0)
  unfolding echelon
  clearing_codes v = cleared A L (length (stairs_of row)) (λ j k. S.image A (stair row j) k) echelon v (length (stairs_of row)) (omega arith)
