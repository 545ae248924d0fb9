-- Lines kept to a set-up have made progress up to their last monomial; kept and finished, they are the row.
use Rattle.std.proofs.Common.{◌≡◌, ℕ, zero, suc, ◌+◌, ◌<◌, ◌≤◌, true, List, [], ◌∷◌, ◌++◌, length, take, sym, refl, ap, ◌∙◌, subst, inl, inr, arith}
use Rattle.std.proofs.lemmas.Bool.{cases_eq}
use Rattle.std.proofs.lemmas.List.{length-take-le, take_more, take_all}
use Rattle.monomials.specs.Monomials.{Mono, one, times, variable, Within}
use Rattle.monomials.specs.Orders.{Before, UpTo}
use Rattle.monomials.specs.MonomialsLemmas.{within_one, within_times, within_variable}
use Rattle.monomials.proofs.Orders as orders
use Rattle.rows.specs.declared.line.Line.{Line}
use Rattle.rows.specs.Ideals.{SetUp, Lawful}
use Rattle.rows.specs.Lines.{monomial_of, blank, line, is_stair}
use Rattle.rows.specs.Rows.{Row}
use Rattle.rows.specs.Sheets.{Waits, Finished, Kept}
use Rattle.rows.proofs.Progress.{Progress, Settled}
use Rattle.rows.proofs.Waiting.{cases_judged, cases_multiple, front_line, first_one, rises}
use Rattle.rows.proofs.Steps.{nothing, advanced, pushed, completed}
use Rattle.rows.proofs.Finished.{finished_row}

-- a product of a stair's monomial by a variable waits, or is settled
pub settled_or_waits : (m : ℕ) (lines : List Line) (i v : ℕ) → i < length lines → is_stair (line lines i) ≡ true → v < m →
    (Waits m lines (times (monomial_of (line lines i)) (variable v)) → ⊥) → Settled lines (times (monomial_of (line lines i)) (variable v))
settled_or_waits m lines i v l t k none =
    let a : Mono = times (monomial_of (line lines i)) (variable v) in
    elim (cases_judged lines a) [
      | inl (j, lj, e) ↦ (j, lj, inl e)
      | inr nj ↦ elim (cases_multiple lines a) [
        | inl (j, lj, f, d) ↦ (j, lj, inr (f, d))
        | inr nm ↦ absurd (none (inr ((i, v, l, k, t, refl), nj, nm)))
      ]
    ]

-- one line more
pub front_more : (lines : List Line) (n : ℕ) → n < length lines → take n lines ++ line lines n ∷ [] ≡ take (suc n) lines
front_more lines n l = let e : n + 1 ≡ suc n = omega arith in sym (take_more lines n blank l) ∙ ap (λ k. take k lines) e

module _ (U : SetUp) (K : Lawful U) (lines : List Line) (H : Kept U lines) where
  open U use {subject as S, order as O}

  -- the monomials up to the last of the first n lines
  abbrev pub Reached : ℕ → Mono → Type 0
  Reached zero c = ⊥
  Reached (suc n) c = UpTo O c (monomial_of (line lines n))

  -- the next line stands after all that has been reached
  after : (n : ℕ) → n < length lines → (c : Mono) → Reached n c → Before O c (monomial_of (line lines n))
  after zero l c r = absurd r
  after (suc n) l c r = orders.up_to_before O K.order c (monomial_of (line lines n)) (monomial_of (line lines (suc n))) r (rises U K lines H n l)

  -- where something is judged, 1 is
  begun : (n : ℕ) → 0 < n → n ≤ length lines → Settled (take n lines) one
  begun n h l = (0, omega (arith, length-take-le n lines l), inl (ap monomial_of (front_line lines n 0 h) ∙ first_one U K lines H (omega arith)))

  -- the lines' monomials keep to the variables
  next_within : (n : ℕ) → n < length lines → Progress U (Reached n) (take n lines) → Within S.variables (monomial_of (line lines n))
  next_within n l W = elim (H.next n l).waits [
    | inl w ↦ subst (Within S.variables) (sym w.1) (within_one S.variables)
    | inr w ↦ subst (Within S.variables) w.0.5
        (within_times S.variables _ _ (W.within w.0.0 w.0.2) (within_variable S.variables w.0.1 w.0.3))
  ]

  -- the progress of the first n lines
  pub progress : (n : ℕ) → n ≤ length lines → Progress U (Reached n) (take n lines)
  progress zero h = nothing U
  progress (suc n) h =
      let a : Mono = monomial_of (line lines n) in
      let W : Progress U (Reached n) (take n lines) = progress n (omega arith) in
      subst (Progress U (λ c. UpTo O c a)) (front_more lines n h)
      (pushed U K (take n lines) (line lines n)
      (advanced U K (Reached n) (take n lines) W a
      (λ i l. after n h (monomial_of (line (take n lines) i)) (W.lines_seen i l))
      (λ b. elim (cases_eq n 0) [
        | inl e ↦ absurd (orders.never_before O K.order one (subst (Before O one) (ap (λ k. monomial_of (line lines k)) e ∙ first_one U K lines H (omega arith)) b))
        | inr d ↦ begun n (omega arith) (omega arith)
      ])
      (λ i v l t k b. settled_or_waits S.variables (take n lines) i v l t k (λ w. (H.next n h).first _ w b)))
      (H.stands n h)
      (next_within n h W)
      (λ i l f d. elim (H.next n h).waits [
        | inl w ↦ omega (arith, w.0)
        | inr w ↦ w.2 (i, l, f, d)
      ]))

  -- the progress of all
  pub whole : Progress U (Reached (length lines)) lines
  whole = subst (Progress U (Reached (length lines))) (take_all (length lines) lines (omega arith)) (progress (length lines) (omega arith))

  -- finished lines settle everything
  pub finished_whole : Finished S.variables lines → Progress U (λ c. Unit {0}) lines
  finished_whole F = completed U (Reached (length lines)) lines whole
      (elim (cases_eq (length lines) 0) [
        | inl e ↦ absurd (F one (inl (e, refl)))
        | inr d ↦ (0, omega arith, inl (first_one U K lines H (omega arith)))
      ])
      (λ i v l t k. settled_or_waits S.variables lines i v l t k (F _))

  -- kept and finished, the lines are the row
  pub kept_row : Finished S.variables lines → Row U lines
  kept_row F = finished_row U K (λ c. Unit {0}) lines (finished_whole F) (λ a. tt)
