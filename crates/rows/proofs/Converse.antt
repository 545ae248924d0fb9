-- A row has made progress over everything: the invariants follow from the staircase and the reduced basis.
use Rattle.std.proofs.Common.{◌≡◌, ℕ, ◌<◌, true, false, ◌⊎◌, List, [], length, get_or, take, sym, ap, ◌∙◌, subst, inl, inr, arith}
use Rattle.std.proofs.lemmas.Bool.{cases_Bool, both_ways, not_from_false}
use Rattle.monomials.specs.Monomials.{Mono, one, times, variable, Divides, Within}
use Rattle.monomials.specs.MonomialsLemmas.{cases_divides, divides_times, over, over_times, times_comm, within_one, within_times, within_variable, within_factor}
use Rattle.fields.proofs.Counting.{cases_below}
use Rattle.monomials.proofs.Orders as orders
use Rattle.monomials.specs.Orders.{Before}
use Rattle.polynomials.specs.Polynomials.{Poly, coefficient, moved_by}
use Rattle.polynomials.proofs.Coefficients as coefficients
use Rattle.rows.specs.declared.line.Line.{Line}
use Rattle.rows.specs.Ideals.{SetUp, Lawful, InIdeal, Leads, InDeltaSet}
use Rattle.rows.specs.Lines.{monomial_of, blank, line, is_stair, is_relation, stairs_of, polynomial}
use Rattle.rows.specs.Rows.{Row, members}
use Rattle.rows.proofs.Progress.{Standing, OnStair, Settled, Fresh, Progress}
use Rattle.rows.proofs.Ranks.{rank, kept_at, same_rank}
use Rattle.rows.proofs.Readings
use Rattle.rows.proofs.Readings.{stair, Placed, placed}
use Rattle.rows.proofs.Relations as relations
use Rattle.rows.proofs.Standing.{Member, member, line_relation, dividing}
use Rattle.rows.proofs.Bases.{ideal_moved, lead_unique}

module _ (U : SetUp) (K : Lawful U) (row : List Line) (R : Row U row) where
  open U use {subject as S, field as A, order as O}

  -- its lines ascend and stand
  abbrev standing : Standing U row
  standing = record { ascends = R.ascends; stands = R.stands }

  -- the polynomial of a line
  abbrev poly : ℕ → Poly
  poly i = polynomial (take i row) (line row i)

  -- the monomial of a line
  abbrev mono : ℕ → Mono
  mono i = monomial_of (line row i)

  -- a line's polynomial leads at its monomial
  led : (i : ℕ) → i < length row → Leads U (poly i) (mono i)
  led i l = relations.leads_itself U K.field.ring K.order (length (stairs_of row)) (stair row) (poly i) (mono i) (line_relation U K row standing i l)

  -- a relation is a member, and a stair is in the delta set
  at_member : (i : ℕ) → i < length row → is_stair (line row i) ≡ false → (rank is_relation row i < length (members row)) × (get_or (members row) (rank is_relation row i) [] ≡ poly i)
  at_member i l f =
      let t : is_relation (line row i) ≡ true = not_from_false (is_stair (line row i)) f in
      (omega (arith, (kept_at is_relation row i blank l t).0, Readings.members_length [] row), Readings.member_at [] row i l t)

  -- a relation is in the ideal
  ideal : (i : ℕ) → i < length row → is_stair (line row i) ≡ false → InIdeal U (poly i)
  ideal i l f = let (b, e) = at_member i l f in subst (InIdeal U) e (R.basis.basis.members (rank is_relation row i) b)

  -- a stair is in the delta set
  delta : (i : ℕ) → i < length row → is_stair (line row i) ≡ true → InDeltaSet U (mono i)
  delta i l t =
      let (b, e) = kept_at is_stair row i blank l t in
      subst (λ x. InDeltaSet U (monomial_of x)) e (R.stairs (rank is_stair row i) b)

  -- every member of the delta set is on a stair
  on_stair : (a : Mono) → InDeltaSet U a → OnStair row a
  on_stair a s =
      let (j, l, e) = R.all_stairs a s in
      let P : Placed is_stair row j = placed is_stair row j l in
      (P.at, P.inside, P.passes, ap monomial_of (sym P.same_line) ∙ e)

  -- what leads a member of the ideal is a multiple of a relation's monomial
  above : (p : Poly) (a : Mono) → InIdeal U p → Leads U p a → (i : ℕ) × (i < length row) × (is_stair (line row i) ≡ false) × Divides (mono i) a
  above p a h t =
      let (k, l, b, s, d) = R.basis.basis.generates p a h t in
      let M : Member row k = member row k l in
      let e : b ≡ mono M.at = lead_unique U K.order (poly M.at) b (mono M.at) (subst (λ x. Leads U x b) (sym M.same_poly) s) (led M.at M.inside) in
      (M.at, M.inside, M.verdict, subst (λ x. Divides x a) e d)

  -- the lines keep to the variables
  lines_within : (i : ℕ) → i < length row → Within S.variables (mono i)
  lines_within i l = elim (cases_Bool (is_stair (line row i))) [
    | inl t ↦ (delta i l t).variables
    | inr f ↦ elim (coefficients.found A K.field.ring (Within S.variables) (mono i) (poly i) (ideal i l f).variables) [
      | inl z ↦ absurd ((led i l).occurs z)
      | inr w ↦ w
    ]
  ]

  -- a multiple of a relation's monomial leads a member of the ideal
  multiple_leads : (i : ℕ) → i < length row → is_stair (line row i) ≡ false → (a : Mono) → Within S.variables a → Divides (mono i) a → InDeltaSet U a → ⊥
  multiple_leads i l f a w d s =
      let b : Mono = over a (mono i) in
      let e : times b (mono i) ≡ a = over_times a (mono i) d in
      s.leads_none (moved_by b (poly i))
      (ideal_moved U K (poly i) (ideal i l f) b (within_factor S.variables b (mono i) (subst (Within S.variables) (sym e) w)))
      (subst (Leads U (moved_by b (poly i))) (times_comm (mono i) b ∙ e)
      (relations.leads_moved U K.field.ring K.order (length (stairs_of row)) (stair row) (poly i) (mono i) (line_relation U K row standing i l) b))

  -- no line is a multiple of an earlier relation
  lines_fresh : Fresh row
  lines_fresh i j h lj f d =
      let li : i < length row = omega arith in
      elim (cases_Bool (is_stair (line row j))) [
        | inl t ↦ multiple_leads i li f (mono j) (lines_within j lj) d (delta j lj t)
        | inr g ↦
            let (bi, ei) = at_member i li f in
            let (bj, ej) = at_member j lj g in
            let apart : rank is_relation row i ≡ rank is_relation row j → ⊥ = λ e.
            orders.never_before O K.order (mono j) (subst (λ x. Before O (monomial_of x) (mono j))
            (same_rank is_relation row i j blank li lj (not_from_false (is_stair (line row i)) f) (not_from_false (is_stair (line row j)) g) e)
            (R.ascends i j h lj)) in
            R.basis.apart (rank is_relation row i) (rank is_relation row j) bi bj apart (mono i) (mono j)
            (subst (λ x. Leads U x (mono i)) (sym ei) (led i li))
            (λ z. (led j lj).occurs (ap (λ x. coefficient A x (mono j)) (sym ej) ∙ z))
            d
      ]

  -- a monomial that no relation's divides is in the delta set
  all_settled : (a : Mono) → Within S.variables a → Settled row a
  all_settled a w =
      let P : ℕ → Type 0 = λ i. (is_stair (line row i) ≡ false) × Divides (mono i) a in
      let test : (i : ℕ) → P i ⊎ (P i → ⊥) = λ i. elim (cases_Bool (is_stair (line row i))) [
        | inl t ↦ inr (λ h. both_ways (is_stair (line row i)) h.0 t)
        | inr f ↦ elim (cases_divides (mono i) a) [ inl d ↦ inl (f, d) | inr d ↦ inr (λ h. d h.1) ]
      ] in
      elim (cases_below P test (length row)) [
        | inl (i, l, h) ↦ (i, l, inr h)
        | inr none ↦
            let (i, l, t, e) = on_stair a (record { variables = w; leads_none = λ p h t. let (i, l, f, d) = above p a h t in none i l (f, d) }) in
            (i, l, inl e)
      ]

  -- a line's quotient by a variable is in the delta set
  quotient : (i : ℕ) → i < length row → (a : Mono) (v : ℕ) → v < S.variables → times a (variable v) ≡ mono i → InDeltaSet U a
  quotient i l a v k e = record {
    variables = within_factor S.variables a (variable v) (subst (Within S.variables) (sym e) (lines_within i l));
    leads_none = λ p h t.
        let (j, b, f, d) = above p a h t in
        let s : j ≡ i = dividing U K row standing lines_fresh j i b l f (subst (Divides (mono j)) e (divides_times (mono j) a (variable v) d)) in
        let g : Before O a (mono j) = subst (λ x. Before O a (mono x)) (sym s) (subst (Before O a) e (orders.grows O K.order a v (omega (arith, K.subject.four_variables)))) in
        orders.never_before O K.order (mono j) (orders.up_to_before O K.order (mono j) a (mono j) (orders.divides_up_to O K.order (mono j) a d) g);
  }

  -- a row has made progress over everything
  pub row_progress : Progress U (λ a. Unit {0}) row
  row_progress = record {
    lines = standing;
    within = lines_within;
    fresh = lines_fresh;
    quotients = λ i l a v k e. on_stair a (quotient i l a v k e);
    earlier = λ a b h s. tt;
    seen = λ a. inl tt;
    lines_seen = λ i l. tt;
    start = λ s. all_settled one (within_one S.variables);
    border = λ i v l t k s. all_settled (times (mono i) (variable v)) (within_times S.variables (mono i) (variable v) (lines_within i l) (within_variable S.variables v k));
  }
