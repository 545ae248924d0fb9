-- The codes that clear the image of a polynomial are the negatives of its remainder's.
use Rattle.std.proofs.Common.{◌≡◌, ℕ, ◌<◌, ◌≤◌, min, List, length, get_or, sym, ap, ◌∙◌, subst, subst₂, mod-eq_of_lt, arith}
use Rattle.std.proofs.lemmas.List.{ext_get_or}
use Rattle.fields.specs.Arithmetic.{Arithmetic, total}
use Rattle.fields.proofs.Rings as rings
use Rattle.fields.proofs.Totals as totals
use Rattle.fields.proofs.Triangles as triangles
use Rattle.fields.proofs.Clearings.{cleared_once}
use Rattle.polynomials.specs.Polynomials.{Poly, InVariables}
use Rattle.polynomials.specs.Subjects.{SubjectMeaning, image_of}
use Rattle.polynomials.proofs.Polynomials.{applied_below}
use Rattle.rows.specs.declared.line.Line.{Line}
use Rattle.rows.specs.Ideals.{SetUp, Lawful}
use Rattle.rows.specs.Lines.{line, stairs_of, on_stairs}
use Rattle.rows.specs.Remainders.{Remains, OneRemainder}
use Rattle.rows.specs.Sheets.{Finished, Kept}
use Rattle.rows.proofs.Readings
use Rattle.rows.proofs.Differences.{applied_minus}
use Rattle.rows.proofs.Keeping.{kept_row}
use Rattle.rows.proofs.Remaining.{one_remainder}
use Rattle.elimination.specs.Echelons.{Echelon}
use Rattle.elimination.specs.Images.{Holds}
use Rattle.elimination.specs.Clearings.{CombinedOf, Cleared}
use Rattle.elimination.specs.Remainders.{RemainderOf}
use Rattle.elimination.proofs.Arrays.{holds_below}
use Rattle.elimination.proofs.Echelons.{stair_inside, stair_alive, stair_clear, few_stairs, standing_echelon, stair_below}
use Rattle.elimination.proofs.Making.{combined}

-- stairs in echelon form that are combined of vectors
abbrev pub triangle : (A : Arithmetic) (w : ℕ) (lines : List Line) → Echelon w A.order lines → (vector : ℕ → ℕ → ℕ) → CombinedOf A w (stairs_of lines) vector →
    triangles.Echelon A (length (stairs_of lines)) vector
triangle A w lines E vector V = record {
  code = λ j i. get_or (line (stairs_of lines) j).combination i 0;
  row = λ j k. get_or (line (stairs_of lines) j).image k 0;
  pivot = λ j. (line (stairs_of lines) j).pivot;
  reads = λ i j li lj. V j lj (line (stairs_of lines) i).pivot (stair_inside w A.order lines E i li);
  clear = λ i j h lj. stair_clear w A.order lines E i j h lj;
  alive = λ j lj z. stair_alive w A.order lines E j lj (sym (mod-eq_of_lt (stair_below w A.order lines E j lj (line (stairs_of lines) j).pivot)) ∙ z);
}

module _ (U : SetUp) (K : Lawful U) (lines : List Line) (H : Kept U lines) (F : Finished U.subject.variables lines)
    (p : Poly) (u : InVariables U.subject.variables p) (v v' added codes : List ℕ)
    (I : Holds U.subject.width (image_of U.subject U.field p) v)
    (C : Cleared U.field U.subject.width lines v v' added)
    (N : (j : ℕ) → j < length codes → get_or codes j 0 ≡ U.field.negative (get_or added j 0))
    (long : length codes ≡ length (stairs_of lines)) where
  infixl 60 ◌⊕◌
  infixl 70 ◌⊗◌
  infixl 80 ⊖◌
  open U use {subject as S, field as A}
  open U.field use {sum as ◌⊕◌, product as ◌⊗◌, negative as ⊖◌, order as q}

  -- the remainder
  R : OneRemainder U lines p
  R = one_remainder U K lines (kept_row U K lines H F) p u

  -- its codes
  abbrev r : ℕ → ℕ
  r j = get_or R.codes j 0

  -- how many stairs there are
  abbrev n : ℕ
  n = length (stairs_of lines)

  -- the images of the stairs' monomials
  abbrev x : ℕ → ℕ → ℕ
  x j k = S.image A (Readings.stair lines j) k

  E : Echelon U.subject.width U.field.order lines
  E = standing_echelon S A K.field lines H.stands

  few : length (stairs_of lines) ≤ 64
  few = omega (arith, K.subject.narrow, few_stairs S.width q lines E)

  -- the polynomial less its remainder
  gone : (k : ℕ) → k < U.subject.width → image_of U.subject U.field p k ⊕ total U.field n (λ j. ⊖ 1 ⊗ r j ⊗ x j k) ≡ 0
  gone k h =
      ap (λ y. image_of S A p k ⊕ y)
      (totals.total_same A n _ _ (λ j b. K.field.ring.product_assoc (⊖ 1) (r j) (x j k)) ∙
      totals.total_product A K.field.ring n (⊖ 1) (λ j. r j ⊗ x j k) ∙
      ap (λ y. ⊖ 1 ⊗ y) (sym (Readings.applied_on_stairs A K.field.ring (λ a. S.image A a k) (stairs_of lines) R.codes))) ∙
      sym (applied_minus A K.field.ring (λ a. S.image A a k) p (on_stairs (stairs_of lines) R.codes)) ∙
      R.remains.differs.annihilates k h

  -- the codes that were added are the negatives of the remainder's
  added_is : (j : ℕ) → j < n → get_or added j 0 ≡ ⊖ 1 ⊗ r j
  added_is j h =
      let V : CombinedOf A S.width (stairs_of lines) x = combined S K.subject A K.field lines H.stands in
      let below : (k : ℕ) → get_or v k 0 < q = holds_below S.width q (image_of S A p) v I (rings.some_code A K.field.ring) (λ k. applied_below A K.field.ring (λ a. S.image A a k) p) in
      sym (mod-eq_of_lt (C.codes_below j)) ∙
      cleared_once A K.field n x (triangle A S.width lines E x V) (image_of S A p) (λ j. get_or added j 0) (λ j. ⊖ 1 ⊗ r j)
      (λ i l.
      let k : ℕ = (line (stairs_of lines) i).pivot in
      let b : k < S.width = stair_inside S.width q lines E i l in
      ap (λ y. y ⊕ total A n (λ j. get_or added j 0 ⊗ x j k)) (sym (I.inside k b)) ∙ sym (C.added few below x V k b) ∙ C.clear E i l)
      (λ i l. gone (line (stairs_of lines) i).pivot (stair_inside S.width q lines E i l))
      j h ∙
      mod-eq_of_lt (K.field.ring.product_below (⊖ 1) (r j))

  -- so the codes are the remainder's
  code_is : (j : ℕ) → j < length codes → get_or codes j 0 ≡ r j
  code_is j h =
      N j h ∙
      ap ⊖◌ (added_is j (omega arith)) ∙
      sym (rings.negative_unique A K.field.ring (⊖ 1 ⊗ r j) (r j) (K.field.ring.sum_comm (⊖ 1 ⊗ r j) (r j) ∙ rings.difference A K.field.ring (r j))) ∙
      mod-eq_of_lt (R.remains.below j (omega (arith, R.remains.one_each)))

  -- they remain
  codes_remain : Remains U lines p codes
  codes_remain = subst (Remains U lines p) (sym (ext_get_or 0 codes R.codes (long ∙ sym R.remains.one_each) code_is)) R.remains

-- for every set-up of a subject and a field, and a width that was read
pub remainder_of : (S : SubjectMeaning) (A : Arithmetic) (lines : List Line) (p : Poly) (n : ℕ) (v v' added codes : List ℕ) → n ≡ S.width → S.width ≤ 64 →
    Holds S.width (image_of S A p) v → Cleared A (min n 64) lines v v' added →
    ((j : ℕ) → j < length codes → get_or codes j 0 ≡ A.negative (get_or added j 0)) → RemainderOf S A lines p codes
remainder_of S A lines p n v v' added codes e narrow I C N U eS eA K H F u long =
    let same : min n 64 ≡ S.width = omega arith in
    codes_remain U K lines H (subst (λ (T : SubjectMeaning). Finished T.variables lines) (sym eS) F)
    p (subst (λ (T : SubjectMeaning). InVariables T.variables p) (sym eS) u) v v' added codes
    (subst₂ (λ (T : SubjectMeaning) (B : Arithmetic). Holds T.width (image_of T B p) v) (sym eS) (sym eA) I)
    (subst₂ (λ (T : SubjectMeaning) (B : Arithmetic). Cleared B T.width lines v v' added) (sym eS) (sym eA) (subst (λ w. Cleared A w lines v v' added) same C))
    (subst (λ (B : Arithmetic). (j : ℕ) → j < length codes → get_or codes j 0 ≡ B.negative (get_or added j 0)) (sym eA) N)
    long
