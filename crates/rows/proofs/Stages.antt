-- The staircase of lines that have made progress, and the stage that they have come to.
use Rattle.std.proofs.Common.{◌≡◌, ℕ, ◌<◌, false, ◌⊎◌, List, [], length, take, sym, ap, ◌∙◌, subst, subst₂, inl, inr, arith}
use Rattle.std.proofs.lemmas.Bool.{cases_Bool, both_ways, not_from_false}
use Rattle.monomials.specs.Monomials.{Mono, one, times, variable, Divides, Within}
use Rattle.monomials.specs.MonomialsLemmas.{divides_self, divides_times, by_variables}
use Rattle.monomials.proofs.Orders as orders
use Rattle.rows.specs.declared.line.Line.{Line}
use Rattle.rows.specs.Ideals.{SetUp, Lawful, InIdeal}
use Rattle.rows.specs.Lines.{monomial_of, line, is_stair, is_relation, stairs_of, relations_of, polynomial}
use Rattle.rows.specs.Rows.{members}
use Rattle.rows.proofs.Progress.{OnStair, Settled, Progress}
use Rattle.rows.proofs.Ranks.{rank}
use Rattle.rows.proofs.Readings
use Rattle.rows.proofs.Readings.{stair, lead, Placed, placed}
use Rattle.rows.proofs.Staircases.{Staircase, Listed, Multiple}
use Rattle.rows.proofs.Relations.{RelationAt}
use Rattle.rows.proofs.Standing.{dividing, Member, member, stair_before, line_relation}
use Rattle.rows.proofs.Echelons.{stairs_independent}
use Rattle.rows.proofs.Bases.{Stage}
use Rattle.rows.proofs.Verdicts.{relation_says}

module _ (U : SetUp) (K : Lawful U) (Seen : Mono → Type 0) (row : List Line) (W : Progress U Seen row) where
  open U use {subject as S, field as A, order as O}

  -- a stair of the row is one of the staircase
  pub listed : (a : Mono) → OnStair row a → Listed (length (stairs_of row)) (stair row) a
  listed a (i, l, t, e) =
      let (b, h) = Readings.at_rank is_stair row i l t in
      (rank is_stair row i, b, h ∙ e)

  -- a multiple of a relation's monomial is one of a lead
  multiple : (a : Mono) (i : ℕ) → i < length row → is_stair (line row i) ≡ false → Divides (monomial_of (line row i)) a → Multiple (length (relations_of row)) (lead row) a
  multiple a i l f d =
      let (b, h) = Readings.at_rank is_relation row i l (not_from_false (is_stair (line row i)) f) in
      (rank is_relation row i, b, subst (λ x. Divides x a) (sym h) d)

  -- what is settled is a stair or a multiple of a lead
  pub told_of : (a : Mono) → Settled row a → Listed (length (stairs_of row)) (stair row) a ⊎ Multiple (length (relations_of row)) (lead row) a
  told_of a (i, l, inl e) = elim (cases_Bool (is_stair (line row i))) [
    | inl t ↦ inl (listed a (i, l, t, e))
    | inr f ↦ inr (multiple a i l f (subst (Divides (monomial_of (line row i))) e (divides_self (monomial_of (line row i)))))
  ]
  told_of a (i, l, inr (f, d)) = inr (multiple a i l f d)

  -- all that has been seen is settled
  pub settled : (a : Mono) → Within S.variables a → Seen a → Settled row a
  settled = by_variables S.variables (λ a. Seen a → Settled row a) W.start
      (λ a v k w ih s.
      let b : Mono = times a (variable v) in
      let (i, l, u) = ih (W.earlier a b (orders.grows O K.order a v (omega (arith, K.subject.four_variables))) s) in
      elim u [
        | inr (f, d) ↦ (i, l, inr (f, divides_times (monomial_of (line row i)) a (variable v) d))
        | inl e ↦ elim (cases_Bool (is_stair (line row i))) [
          | inl t ↦ subst (λ x. Settled row (times x (variable v))) e (W.border i v l t k (subst (λ x. Seen (times x (variable v))) (sym e) s))
          | inr f ↦ (i, l, inr (f, subst (λ x. Divides x b) (sym e) (divides_times a a (variable v) (divides_self a))))
        ]
      ])

  -- the stairs keep to the variables
  pub stair_within : (j : ℕ) → j < length (stairs_of row) → Within S.variables (stair row j)
  stair_within j l =
      let P : Placed is_stair row j = placed is_stair row j l in
      subst (Within S.variables) (sym P.same_mono) (W.within P.at P.inside)

  -- a relation is a member of the ideal
  pub line_ideal : (i : ℕ) → i < length row → is_stair (line row i) ≡ false → InIdeal U (polynomial (take i row) (line row i))
  line_ideal i l f = record {
    variables = (
      W.within i l,
      Readings.each_on_stairs (Within S.variables) (stairs_of (take i row)) (line row i).combination
          (λ j h. subst (Within S.variables) (Readings.early is_stair row i j h) (stair_within j (stair_before U K row W.lines i j l h).0)),
    );
    annihilates = λ k h. sym ((W.lines.stands i l).image k h) ∙ (relation_says S A (take i row) (line row i) (W.lines.stands i l) f).1 k;
  }

  -- the staircase of the row
  abbrev pub staircase : Staircase O S.variables
  staircase = record {
    Seen = Seen;
    earlier = W.earlier;
    stairs = length (stairs_of row);
    stair = stair row;
    within = stair_within;
    divisors = λ a v k u.
        let P : Placed is_stair row u.0 = placed is_stair row u.0 u.1 in
        listed a (W.quotients P.at P.inside a v k (sym u.2 ∙ P.same_mono));
    leads = length (relations_of row);
    lead = lead row;
    apart = λ j l u.
        let P : Placed is_stair row j = placed is_stair row j l in
        let M : Member row u.0 = member row u.0 (omega (arith, u.1, Readings.members_length [] row)) in
        let d : Divides (monomial_of (line row M.at)) (monomial_of (line row P.at)) = subst₂ Divides (sym M.same_mono) P.same_mono u.2 in
        both_ways (is_stair (line row M.at)) M.verdict
        (ap (λ m. is_stair (line row m)) (dividing U K row W.lines W.fresh M.at P.at M.inside P.inside M.verdict d) ∙ P.passes);
    start = λ s. told_of one (W.start s);
    border = λ j v l k s.
        let P : Placed is_stair row j = placed is_stair row j l in
        let b : Mono → Mono = λ x. times x (variable v) in
        subst (λ x. Listed (length (stairs_of row)) (stair row) (b x) ⊎ Multiple (length (relations_of row)) (lead row) (b x)) (sym P.same_mono)
        (told_of (b (monomial_of (line row P.at))) (W.border P.at v P.inside P.passes k (subst (λ x. Seen (b x)) P.same_mono s)));
  }

  -- the stage that the row has come to
  abbrev pub stage : Stage U
  stage = record {
    shape = staircase;
    seen = W.seen;
    stairs_seen = λ j l.
        let P : Placed is_stair row j = placed is_stair row j l in
        subst Seen (sym P.same_mono) (W.lines_seen P.at P.inside);
    basis = members row;
    size = Readings.members_length [] row;
    leads_within = λ i l.
        let M : Member row i = member row i l in
        subst (Within S.variables) M.same_mono (W.within M.at M.inside);
    minimal = λ i j li lj ne d.
        let M : Member row i = member row i li in
        let N : Member row j = member row j lj in
        ne (sym M.ranked ∙
        ap (rank is_relation row) (dividing U K row W.lines W.fresh M.at N.at M.inside N.inside M.verdict (subst₂ Divides (sym M.same_mono) (sym N.same_mono) d)) ∙
        N.ranked);
    relation = λ i l.
        let M : Member row i = member row i l in
        subst₂ (RelationAt A O (length (stairs_of row)) (stair row)) M.same_poly M.same_mono (line_relation U K row W.lines M.at M.inside);
    members = λ i l.
        let M : Member row i = member row i l in
        subst (InIdeal U) M.same_poly (line_ideal M.at M.inside M.verdict);
    independent = stairs_independent S K.subject A K.field row W.lines.stands;
  }
