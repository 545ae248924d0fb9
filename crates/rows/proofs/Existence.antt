-- Kept lines go on, a line for the next monomial at a time, until nothing waits: so every lawful set-up has its row.
use Rattle.std.proofs.Common.{◌≡◌, ℕ, zero, suc, ◌+◌, ◌*◌, ◌<◌, ◌≤◌, List, [], ◌∷◌, ◌++◌, length, sym, ◌∙◌, subst, subst₂, inl, inr, mul-le-mul_left, arith}
use Rattle.std.proofs.lemmas.Bool.{cases_eq}
use Rattle.std.proofs.lemmas.List.{length_push, take_all}
use Rattle.monomials.specs.Monomials.{Mono}
use Rattle.rows.specs.declared.line.Line.{Line}
use Rattle.rows.specs.Ideals.{SetUp, Lawful}
use Rattle.rows.specs.Lines.{monomial_of, line, Stands}
use Rattle.rows.specs.Rows.{Row}
use Rattle.rows.specs.Sheets.{Next, Finished, Kept}
use Rattle.rows.proofs.Pushes.{cases_place}
use Rattle.rows.proofs.Keeping.{kept_row}
use Rattle.rows.proofs.KeptRows.{row_kept, row_finished}
use Rattle.rows.proofs.Firsts as firsts
use Rattle.rows.proofs.Choosing.{next_or_finished}
use Rattle.rows.proofs.Counts.{stairs_counted, lines_bounded}
use Rattle.rows.proofs.Making.{line_for}

module _ (U : SetUp) (K : Lawful U) where
  open U use {subject as S, field as A, order as O}

  -- the empty list is kept
  pub none_kept : Kept U []
  none_kept = record { next = λ i l. absurd (omega arith); stands = λ i l. absurd (omega arith) }

  -- with a line for the next monomial, lines stay kept
  pub more_kept : (lines : List Line) → Kept U lines → (l : Line) → Next S.variables O lines (monomial_of l) → Stands S A lines l → Kept U (lines ++ l ∷ [])
  more_kept lines H l next stands = record {
    next = λ i h. elim (cases_place lines l i h) [
      | inl (b, e, t) ↦ subst₂ (λ x y. Next S.variables O x (monomial_of y)) (sym t) (sym e) (H.next i b)
      | inr (_, e, t) ↦ subst₂ (λ x y. Next S.variables O x (monomial_of y)) (sym t) (sym e) next
    ];
    stands = λ i h. elim (cases_place lines l i h) [
      | inl (b, e, t) ↦ subst₂ (Stands S A) (sym t) (sym e) (H.stands i b)
      | inr (_, e, t) ↦ subst₂ (Stands S A) (sym t) (sym e) stands
    ];
  }

  -- kept lines are fewer than a bound of the set-up
  bounded : (lines : List Line) → Kept U lines → length lines ≤ S.variables * S.width + 1
  bounded lines H = omega (arith, lines_bounded U K lines H, mul-le-mul_left S.variables (stairs_counted U K lines H))

  -- kept lines go on until they are finished
  extended : (fuel : ℕ) (lines : List Line) → Kept U lines → S.variables * S.width + 1 < length lines + fuel →
      (row : List Line) × Kept U row × Finished S.variables row
  extended zero lines H h = absurd (omega (arith, bounded lines H))
  extended (suc fuel) lines H h = elim (next_or_finished S.variables lines O K.order (omega (arith, K.subject.some_variable))) [
    | inr F ↦ (lines, H, F)
    | inl (a, N) ↦
        let (l, e, s) = line_for S K.subject A K.field lines H.stands a in
        extended fuel (lines ++ l ∷ []) (more_kept lines H l (subst (Next S.variables O lines) (sym e) N) s) (omega (arith, length_push lines l))
  ]

  -- a row exists
  pub row_exists : (row : List Line) × Row U row
  row_exists = let (row, H, F) = extended (S.variables * S.width + 2) [] none_kept (omega arith) in (row, kept_row U K row H F)

  -- what is next stands next in the row
  pub next_in_row : (lines row : List Line) → Kept U lines → (Finished S.variables lines → ⊥) → Row U row →
      (a : Mono) × Next S.variables O lines a × (length lines < length row) × (monomial_of (line row (length lines)) ≡ a)
  next_in_row lines row H d R = elim (next_or_finished S.variables lines O K.order (omega (arith, K.subject.some_variable))) [
    | inr F ↦ absurd (d F)
    | inl (a, N) ↦
        let (b, e) = firsts.first_of_row U K lines row H R in
        let more : length lines < length row = elim (cases_eq (length lines) (length row)) [
          | inl g ↦ absurd (d (subst (Finished S.variables) (sym (e ∙ take_all (length lines) row (omega arith))) (row_finished U K row R)))
          | inr g ↦ omega arith
        ] in
        let next : Next S.variables O lines (monomial_of (line row (length lines))) =
        subst (λ x. Next S.variables O x (monomial_of (line row (length lines)))) (sym e) ((row_kept U K row R).next (length lines) more) in
        (a, N, more, firsts.next_unique S.variables O K.order lines (monomial_of (line row (length lines))) a next N)
  ]
