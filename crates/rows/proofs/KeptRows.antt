-- Lines that have made progress over everything are kept and finished: so is a row.
use Rattle.std.proofs.Common.{◌≡◌, ℕ, ◌<◌, ◌⊎◌, List, length, take, sym, ap, ◌∙◌, subst, inl, inr, arith}
use Rattle.std.proofs.lemmas.Bool.{cases_eq, cases_order}
use Rattle.std.proofs.lemmas.List.{length-take-le}
use Rattle.monomials.specs.Monomials.{Mono, one, times, variable, Divides, Within}
use Rattle.monomials.specs.Orders.{Before}
use Rattle.monomials.specs.MonomialsLemmas.{mono_path, cases_mono, occurring, occurs_within, variable_divides, over, over_times, within_one, within_times, within_variable}
use Rattle.monomials.proofs.Orders as orders
use Rattle.rows.specs.declared.line.Line.{Line}
use Rattle.rows.specs.Ideals.{SetUp, Lawful}
use Rattle.rows.specs.Lines.{monomial_of, line, is_stair}
use Rattle.rows.specs.Rows.{Row}
use Rattle.rows.specs.Sheets.{Judged, Multiple, Borders, Waits, Finished, Kept}
use Rattle.rows.proofs.Progress.{Progress, Settled}
use Rattle.rows.proofs.Waiting.{front_line}
use Rattle.rows.proofs.Stages.{settled}
use Rattle.rows.proofs.Converse.{row_progress}

-- what waits keeps to the variables, where the lines do
pub waits_within : (m : ℕ) (lines : List Line) → ((i : ℕ) → i < length lines → Within m (monomial_of (line lines i))) →
    (a : Mono) → Waits m lines a → Within m a
waits_within m lines h a (inl w) = subst (Within m) (sym w.1) (within_one m)
waits_within m lines h a (inr w) =
    subst (Within m) w.0.5 (within_times m _ _ (h w.0.0 w.0.2) (within_variable m w.0.1 w.0.3))

module _ (U : SetUp) (K : Lawful U) (row : List Line) (W : Progress U (λ c. Unit {0}) row) where
  open U use {subject as S, order as O}

  -- the monomial of a line
  abbrev mono : ℕ → Mono
  mono i = monomial_of (line row i)

  -- an earlier monomial stands on an earlier line
  earlier_line : (i j : ℕ) → i < length row → j < length row → Before O (mono i) (mono j) → i < j
  earlier_line i j li lj h = elim (cases_order i j) [
    | inl e ↦ absurd (orders.never_before O K.order (mono j) (subst (λ k. Before O (mono k) (mono j)) e h))
    | inr (inl b) ↦ b
    | inr (inr b) ↦ absurd (orders.never_before O K.order (mono i) (K.order.transitive (mono i) (mono j) (mono i) h (W.lines.ascends j i b li)))
  ]

  -- what stands before a line is judged before it, or a multiple of a lead before it
  settled_before : (i : ℕ) → i < length row → (a : Mono) → Before O a (mono i) → Settled row a → Judged (take i row) a ⊎ Multiple (take i row) a
  settled_before i l a h (j, lj, inl e) =
      let b : j < i = earlier_line j i lj l (subst (λ x. Before O x (mono i)) (sym e) h) in
      inl (j, omega (arith, length-take-le i row (omega arith)), ap monomial_of (front_line row i j b) ∙ e)
  settled_before i l a h (j, lj, inr (f, d)) =
      let b : j < i = earlier_line j i lj l (orders.up_to_before O K.order (mono j) a (mono i) (orders.divides_up_to O K.order (mono j) a d) h) in
      inr (
        j,
        omega (arith, length-take-le i row (omega arith)),
        ap is_stair (front_line row i j b) ∙ f,
        subst (λ x. Divides (monomial_of x) a) (sym (front_line row i j b)) d,
      )

  -- 1 is the first line
  one_first : (0 < length row) × (mono 0 ≡ one)
  one_first =
      let (j, l, s) = W.start tt in
      let e : mono j ≡ one = elim s [ inl e ↦ e | inr (f, d) ↦ mono_path (omega arith) (omega arith) (omega arith) (omega arith) ] in
      elim (cases_mono (mono 0) one) [
        | inl h ↦ (omega arith, h.1)
        | inr h ↦ absurd (omega (arith, earlier_line j 0 l (omega arith) (subst (λ x. Before O x (mono 0)) (sym e) (K.order.least (mono 0) h.1))))
      ]

  -- a later line is a product of an earlier stair by a variable
  later_borders : (i : ℕ) → i < length row → 0 < i → Borders S.variables (take i row) (mono i)
  later_borders i l h = elim (occurring (mono i)) [
    | inl e ↦ absurd (orders.never_before O K.order (mono i) (subst (λ x. Before O x (mono i)) (one_first.1 ∙ sym e) (W.lines.ascends 0 i h l)))
    | inr (v, o) ↦
        let c : Mono = over (mono i) (variable v) in
        let e : times c (variable v) ≡ mono i = over_times (mono i) (variable v) (variable_divides v (mono i) o) in
        let k : v < S.variables = occurs_within S.variables (mono i) v (W.within i l) o in
        let q = W.quotients i l c v k e in
        let j : ℕ = q.0 in
        let g : Before O c (mono i) = subst (Before O c) e (orders.grows O K.order c v (omega (arith, K.subject.four_variables))) in
        let b : j < i = earlier_line j i q.1 l (subst (λ x. Before O x (mono i)) (sym q.3) g) in
        let there : line (take i row) j ≡ line row j = front_line row i j b in (
          j,
          v,
          omega (arith, length-take-le i row (omega arith)),
          k,
          ap is_stair there ∙ q.2,
          ap (λ x. times (monomial_of x) (variable v)) there ∙ ap (λ x. times x (variable v)) q.3 ∙ e,
        )
  ]

  -- each line waited
  line_waits : (i : ℕ) → i < length row → Waits S.variables (take i row) (mono i)
  line_waits i l = elim (cases_eq i 0) [
    | inl e ↦ inl (omega (arith, length-take-le i row (omega arith)), ap mono e ∙ one_first.1)
    | inr d ↦ inr (
      later_borders i l (omega arith),
      (λ j.
          let b : j.0 < i = omega (arith, j.1, length-take-le i row (omega arith)) in
          orders.never_before O K.order (mono i)
          (subst (λ x. Before O x (mono i)) (ap monomial_of (sym (front_line row i j.0 b)) ∙ j.2) (W.lines.ascends j.0 i b l))),
      (λ j.
          let b : j.0 < i = omega (arith, j.1, length-take-le i row (omega arith)) in
          W.fresh j.0 i b l (ap is_stair (sym (front_line row i j.0 b)) ∙ j.2)
          (subst (λ x. Divides (monomial_of x) (mono i)) (front_line row i j.0 b) j.3)),
    )
  ]

  -- and nothing that waited stood before it
  line_first : (i : ℕ) → i < length row → (b : Mono) → Waits S.variables (take i row) b → Before O b (mono i) → ⊥
  line_first i l b w h =
      let long : length (take i row) ≡ i = length-take-le i row (omega arith) in
      elim w [
        | inl u ↦
            let e : i ≡ 0 = omega (arith, u.0) in
            orders.never_before O K.order b (subst (Before O b) (ap mono e ∙ one_first.1 ∙ sym u.1) h)
        | inr u ↦
            let v : Within S.variables b = waits_within S.variables (take i row)
            (λ j k. subst (λ x. Within S.variables (monomial_of x)) (sym (front_line row i j (omega arith))) (W.within j (omega arith))) b (inr u) in
            elim (settled_before i l b h (settled U K (λ c. Unit {0}) row W b v tt)) [ inl j ↦ u.1 j | inr j ↦ u.2 j ]
      ]

  -- the lines are kept to the set-up
  pub progress_kept : Kept U row
  progress_kept = record {
    next = λ i l. record { waits = line_waits i l; first = line_first i l };
    stands = W.lines.stands;
  }

  -- and finished
  pub progress_finished : Finished S.variables row
  progress_finished b w = elim w [
    | inl u ↦ omega (arith, u.0, one_first.0)
    | inr u ↦
        let (i, l, s) = settled U K (λ c. Unit {0}) row W b (waits_within S.variables row W.within b (inr u)) tt in
        elim s [ inl e ↦ u.1 (i, l, e) | inr (f, d) ↦ u.2 (i, l, f, d) ]
  ]

-- a row is kept to its set-up
pub row_kept : (U : SetUp) → Lawful U → (row : List Line) → Row U row → Kept U row
row_kept U K row R = progress_kept U K row (row_progress U K row R)

-- and finished
pub row_finished : (U : SetUp) → Lawful U → (row : List Line) → Row U row → Finished U.subject.variables row
row_finished U K row R = progress_finished U K row (row_progress U K row R)
