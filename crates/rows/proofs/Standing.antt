-- What follows for a row from its lines' standing in ascending order: each is a relation to the stairs before it.
use Rattle.std.proofs.Common.{◌≡◌, ℕ, ◌<◌, false, List, [], length, get_or, take, sym, ap, ◌∙◌, subst, inl, inr, arith}
use Rattle.std.proofs.lemmas.Bool.{cases_lt, cases_order, not-true}
use Rattle.fields.proofs.Rings as rings
use Rattle.fields.proofs.Totals as totals
use Rattle.monomials.specs.Monomials.{Mono, Divides}
use Rattle.monomials.proofs.Orders as orders
use Rattle.monomials.specs.Orders.{Before}
use Rattle.rows.specs.declared.line.Line.{Line}
use Rattle.rows.specs.Ideals.{SetUp, Lawful}
use Rattle.rows.specs.Lines.{monomial_of, line, is_stair, is_relation, stairs_of, polynomial}
use Rattle.rows.specs.Rows.{members}
use Rattle.rows.proofs.Progress.{Fresh, Standing}
use Rattle.rows.proofs.Ranks.{rank, rank_before}
use Rattle.rows.proofs.Readings
use Rattle.rows.proofs.Readings.{stair, lead, Placed, placed}
use Rattle.rows.proofs.Relations.{RelationAt}

-- the members of the row are the polynomials of its relations
pub record Member (row : List Line) (k : ℕ) : Type 0 where
  pub at : ℕ
  pub inside : at < length row
  pub verdict : is_stair (line row at) ≡ false
  pub ranked : rank is_relation row at ≡ k
  pub same_mono : monomial_of (line row at) ≡ lead row k
  pub same_poly : polynomial (take at row) (line row at) ≡ get_or (members row) k []

-- every member has its relation
pub member : (row : List Line) (k : ℕ) → k < length (members row) → Member row k
member row k l =
    let P : Placed is_relation row k = placed is_relation row k (omega (arith, Readings.members_length [] row)) in
    record {
      at = P.at;
      inside = P.inside;
      verdict = not-true (is_stair (line row P.at)) P.passes;
      ranked = P.ranked;
      same_mono = sym P.same_mono;
      same_poly = sym (Readings.member_at [] row P.at P.inside P.passes) ∙ ap (λ i. get_or (members row) i []) P.ranked;
    }

module _ (U : SetUp) (K : Lawful U) (row : List Line) (W : Standing U row) where
  infixl 60 ◌⊕◌
  infixl 70 ◌⊗◌
  open U use {subject as S, field as A, order as O}
  open U.field use {sum as ◌⊕◌, product as ◌⊗◌, order as q}

  -- a relation's monomial divides no other line's
  pub dividing : Fresh row → (i j : ℕ) → i < length row → j < length row → is_stair (line row i) ≡ false →
      Divides (monomial_of (line row i)) (monomial_of (line row j)) → i ≡ j
  dividing fresh i j li lj f d = elim (cases_order i j) [
    | inl e ↦ e
    | inr (inl h) ↦ absurd (fresh i j h lj f d)
    | inr (inr h) ↦
        let a : Mono = monomial_of (line row i) in
        let b : Mono = monomial_of (line row j) in
        absurd (orders.never_before O K.order a
        (orders.up_to_before O K.order a b a (orders.divides_up_to O K.order a b d) (W.ascends j i h li)))
  ]

  -- the stairs of the lines before a place stand before its monomial
  pub stair_before : (i j : ℕ) → i < length row → j < rank is_stair row i → (j < length (stairs_of row)) × Before O (stair row j) (monomial_of (line row i))
  stair_before i j l g =
      let b : j < length (stairs_of row) = omega (arith, Readings.rank_all is_stair row i) in
      let P : Placed is_stair row j = placed is_stair row j b in
      let h : P.at < i = rank_before is_stair row P.at i (omega (arith, P.ranked)) in
      (b, subst (λ x. Before O x (monomial_of (line row i))) (sym P.same_mono) (W.ascends P.at i h l))

  -- it is the line's monomial plus a combination of the stairs before it
  pub line_relation : (i : ℕ) → i < length row → RelationAt A O (length (stairs_of row)) (stair row) (polynomial (take i row) (line row i)) (monomial_of (line row i))
  line_relation i l =
      let c : ℕ → ℕ = λ j. get_or (line row i).combination j 0 in
      record {
        codes = c;
        support = λ j. elim (cases_lt j (rank is_stair row i)) [
          | inr g ↦ inl ((W.stands i l).unused j g)
          | inl g ↦ inr (stair_before i j l g)
        ];
        reads = λ f. Readings.reads_early A K.field.ring row i (line row i) f ∙
            ap (λ x. 1 ⊗ f (monomial_of (line row i)) ⊕ x)
            (sym (totals.total_longer A K.field.ring (rank is_stair row i) (length (stairs_of row)) (λ j. c j ⊗ f (stair row j)) (Readings.rank_all is_stair row i)
            (λ j g. ap (λ x. x ⊗ f (stair row j)) ((W.stands i l).unused j g) ∙ rings.zero_product A K.field.ring (f (stair row j)))));
      }
