-- The remainder of a polynomial on the stairs of a row, and the only one.
use Rattle.std.proofs.Common.{◌≡◌, ℕ, ◌<◌, List, map, length, get_or, sym, ap, ◌∙◌, mod-eq_of_lt, arith}
use Rattle.std.specs.List.{range_with_len}
use Rattle.std.proofs.lemmas.List.{ext_get_or}
use Rattle.std.proofs.lemmas.List.FromFn.{length-map-range_with_len, get_or-map-range_with_len}
use Rattle.fields.specs.Arithmetic.{total}
use Rattle.fields.proofs.Rings as rings
use Rattle.fields.proofs.Totals as totals
use Rattle.monomials.specs.Monomials.{Within}
use Rattle.polynomials.specs.Polynomials.{Poly, InVariables}
use Rattle.polynomials.specs.Subjects.{image_of}
use Rattle.polynomials.proofs.Polynomials as polynomials
use Rattle.rows.specs.declared.line.Line.{Line}
use Rattle.rows.specs.Ideals.{SetUp, Lawful}
use Rattle.rows.specs.Lines.{stairs_of, on_stairs}
use Rattle.rows.specs.Rows.{Row}
use Rattle.rows.specs.Remainders.{Remains, OneRemainder}
use Rattle.rows.proofs.Progress.{Progress}
use Rattle.rows.proofs.Readings.{stair, applied_on_stairs, each_on_stairs}
use Rattle.rows.proofs.Stages.{stage, stair_within}
use Rattle.rows.proofs.Bases as bases
use Rattle.rows.proofs.Bases.{Stage}
use Rattle.rows.proofs.Differences.{each_minus, applied_minus}
use Rattle.rows.proofs.Converse.{row_progress}

module _ (U : SetUp) (K : Lawful U) (row : List Line) (R : Row U row) (p : Poly) (u : InVariables U.subject.variables p) where
  infixl 60 ◌⊕◌
  infixl 70 ◌⊗◌
  open U use {subject as S, field as A}
  open U.field use {sum as ◌⊕◌, product as ◌⊗◌, order as q}

  -- the row has made progress over everything
  progress : Progress U (λ a. Unit {0}) row
  progress = row_progress U K row R

  -- as a stage
  abbrev whole : Stage U
  whole = stage U K (λ a. Unit {0}) row progress

  -- how many stairs there are
  abbrev n : ℕ
  n = length (stairs_of row)

  -- the codes of the remainder
  abbrev code : ℕ → ℕ
  code = bases.remainder_codes U K whole (λ a. tt) p

  -- as a list
  abbrev codes : List ℕ
  codes = map code (range_with_len 0 n)

  -- the list at a place
  code_at : (j : ℕ) → j < n → get_or codes j 0 ≡ code j
  code_at j h = get_or-map-range_with_len code 0 n j j 0 h (omega arith)

  -- a combination of stairs, as an image
  image_on : (cs : List ℕ) (k : ℕ) → image_of S A (on_stairs (stairs_of row) cs) k ≡ total A n (λ j. get_or cs j 0 ⊗ S.image A (stair row j) k)
  image_on cs k = applied_on_stairs A K.field.ring (λ a. S.image A a k) (stairs_of row) cs

  -- codes whose combination of stairs has the polynomial's image remain
  pub remains_by_image : (cs : List ℕ) → length cs ≡ n → ((j : ℕ) → j < length cs → get_or cs j 0 < q) →
      ((k : ℕ) → k < S.width → image_of S A p k ≡ total A n (λ j. get_or cs j 0 ⊗ S.image A (stair row j) k)) → Remains U row p cs
  remains_by_image cs long below h = record {
    one_each = long;
    below = below;
    differs = record {
      variables = each_minus A (Within S.variables) p (on_stairs (stairs_of row) cs) u
          (each_on_stairs (Within S.variables) (stairs_of row) cs (stair_within U K (λ a. Unit {0}) row progress));
      annihilates = λ k l.
          applied_minus A K.field.ring (λ a. S.image A a k) p (on_stairs (stairs_of row) cs) ∙
          ap (λ x. image_of S A p k ⊕ A.negative 1 ⊗ x) (image_on cs k ∙ sym (h k l)) ∙
          rings.difference A K.field.ring (image_of S A p k);
    };
  }

  -- the codes remain
  remains : Remains U row p codes
  remains = remains_by_image codes (length-map-range_with_len code 0 n)
      (λ j h.
      let b : j < n = omega (arith, length-map-range_with_len code 0 n) in
      rw (code_at j b) (bases.codes_below U K whole (λ a. tt) p j))
      (λ k h. bases.codes_hold U K whole (λ a. tt) p u k h ∙ totals.total_same A n _ _ (λ j l. ap (λ c. c ⊗ S.image A (stair row j) k) (sym (code_at j l))))

  -- no others do
  remains_only : (other : List ℕ) → Remains U row p other → other ≡ codes
  remains_only other T = ext_get_or 0 other codes (T.one_each ∙ sym (length-map-range_with_len code 0 n))
      (λ j h.
      let b : j < n = omega (arith, T.one_each) in
      sym (mod-eq_of_lt (T.below j h)) ∙
      bases.codes_only U K whole (λ a. tt) p u (λ j. get_or other j 0)
      (λ k l.
      rings.same_codes A K.field.ring (image_of S A p k) (total A n (λ j. get_or other j 0 ⊗ S.image A (stair row j) k))
      (polynomials.applied_below A K.field.ring (λ a. S.image A a k) p)
      (totals.total_below A K.field.ring n (λ j. get_or other j 0 ⊗ S.image A (stair row j) k))
      (ap (λ x. image_of S A p k ⊕ A.negative 1 ⊗ x) (sym (image_on other k)) ∙
      sym (applied_minus A K.field.ring (λ a. S.image A a k) p (on_stairs (stairs_of row) other)) ∙
      T.differs.annihilates k l))
      j b ∙
      mod-eq_of_lt (bases.codes_below U K whole (λ a. tt) p j) ∙
      sym (code_at j b))

  -- exactly one combination of stairs remains
  pub one_remainder : OneRemainder U row p
  one_remainder = record { codes = codes; remains = remains; only = remains_only }
