-- What waits is decided by the lines alone, and the next line ascends.
use Rattle.std.proofs.Common.{◌≡◌, ℕ, suc, ◌<◌, ◌≤◌, false, ◌⊎◌, List, length, take, sym, ap, ◌∙◌, subst, subst₂, inl, inr, arith}
use Rattle.std.proofs.lemmas.Bool.{cases_Bool, cases_eq, both_ways}
use Rattle.std.proofs.lemmas.List.{get_or-take, length-take-le, take-take}
use Rattle.fields.specs.Arithmetic.{Arithmetic}
use Rattle.fields.proofs.Counting.{cases_below}
use Rattle.monomials.specs.Monomials.{Mono, one, times, variable, Divides}
use Rattle.monomials.specs.Orders.{Before}
use Rattle.monomials.specs.MonomialsLemmas.{cases_mono, cases_divides}
use Rattle.monomials.proofs.Orders as orders
use Rattle.polynomials.specs.Subjects.{SubjectMeaning}
use Rattle.rows.specs.declared.line.Line.{Line}
use Rattle.rows.specs.Ideals.{SetUp, Lawful}
use Rattle.rows.specs.Lines.{monomial_of, blank, line, is_stair, Stands, AllStand}
use Rattle.rows.specs.Sheets.{Judged, Multiple, Next, Kept}

-- whether a monomial is judged
pub cases_judged : (lines : List Line) (a : Mono) → Judged lines a ⊎ (Judged lines a → ⊥)
cases_judged lines a = elim (cases_below (λ i. monomial_of (line lines i) ≡ a)
    (λ i. elim (cases_mono (monomial_of (line lines i)) a) [ inl s ↦ inl s.1 | inr s ↦ inr s.1 ]) (length lines)) [
      | inl h ↦ inl h
      | inr none ↦ inr (λ h. none h.0 h.1 h.2)
    ]

-- whether a monomial is a multiple of a listed lead
pub cases_multiple : (lines : List Line) (a : Mono) → Multiple lines a ⊎ (Multiple lines a → ⊥)
cases_multiple lines a = elim (cases_below (λ i. (is_stair (line lines i) ≡ false) × Divides (monomial_of (line lines i)) a)
    (λ i. elim (cases_Bool (is_stair (line lines i))) [
      | inl t ↦ inr (λ h. both_ways (is_stair (line lines i)) h.0 t)
      | inr f ↦ elim (cases_divides (monomial_of (line lines i)) a) [ inl d ↦ inl (f, d) | inr d ↦ inr (λ h. d h.1) ]
    ]) (length lines)) [
      | inl (i, l, h) ↦ inl (i, l, h.0, h.1)
      | inr none ↦ inr (λ h. none h.0 h.1 (h.2, h.3))
    ]

-- the lines before a place, at an earlier place
pub front_line : (lines : List Line) (n i : ℕ) → i < n → line (take n lines) i ≡ line lines i
front_line lines n i h = get_or-take n lines i blank h

-- what is judged in front is judged
pub judged_front : (lines : List Line) (n : ℕ) (a : Mono) → n ≤ length lines → Judged (take n lines) a → Judged lines a
judged_front lines n a h (i, l, e) =
    let b : i < n = omega (arith, length-take-le n lines h) in
    (i, omega arith, ap monomial_of (sym (front_line lines n i b)) ∙ e)

-- a multiple of a lead in front is one
pub multiple_front : (lines : List Line) (n : ℕ) (a : Mono) → n ≤ length lines → Multiple (take n lines) a → Multiple lines a
multiple_front lines n a h (i, l, f, d) =
    let b : i < n = omega (arith, length-take-le n lines h) in
    let e : line (take n lines) i ≡ line lines i = front_line lines n i b in
    (i, omega arith, ap is_stair (sym e) ∙ f, subst (λ x. Divides (monomial_of x) a) e d)

-- where all stand, those in front do
pub front_stands : (S : SubjectMeaning) (A : Arithmetic) (lines : List Line) (n : ℕ) → n ≤ length lines → AllStand S A lines → AllStand S A (take n lines)
front_stands S A lines n h stands i l =
    let b : i < n = omega (arith, length-take-le n lines h) in
    subst₂ (Stands S A) (sym (take-take i n lines (omega arith))) (sym (front_line lines n i b)) (stands i (omega arith))

-- what waits, waited already, or is a product of the last line
module _ (U : SetUp) (K : Lawful U) (lines : List Line) (H : Kept U lines) where
  open U use {subject as S, order as O}

  -- the first line is that of 1
  pub first_one : 0 < length lines → monomial_of (line lines 0) ≡ one
  first_one l = elim (H.next 0 l).waits [
    | inl w ↦ w.1
    | inr w ↦ absurd (omega (arith, w.0.2))
  ]

  -- each line stands before the next
  pub rises : (i : ℕ) → suc i < length lines → Before O (monomial_of (line lines i)) (monomial_of (line lines (suc i)))
  rises i l =
      let a : Mono = monomial_of (line lines (suc i)) in
      let b : Mono = monomial_of (line lines i) in
      let long : length (take (suc i) lines) ≡ suc i = length-take-le (suc i) lines (omega arith) in
      elim (H.next (suc i) l).waits [
        | inl w ↦ absurd (omega (arith, w.0))
        | inr w ↦
            let p : ℕ = w.0.0 in
            let v : ℕ = w.0.1 in
            let inside : p < suc i = omega (arith, w.0.2) in
            let there : line (take (suc i) lines) p ≡ line lines p = front_line lines (suc i) p inside in
            let product : times (monomial_of (line lines p)) (variable v) ≡ a = ap (λ x. times (monomial_of x) (variable v)) (sym there) ∙ w.0.5 in
            elim (cases_eq p i) [
              | inl e ↦
                  subst (Before O b) (ap (λ x. times (monomial_of (line lines x)) (variable v)) (sym e) ∙ product)
                  (orders.grows O K.order b v (omega (arith, w.0.3, K.subject.four_variables)))
              | inr d ↦ elim (orders.compared O K.order b a) [
                | inl h ↦ h
                | inr (inl e) ↦ absurd (w.1 (i, omega arith, ap monomial_of (front_line lines (suc i) i (omega arith)) ∙ e))
                | inr (inr h) ↦
                    let before : p < i = omega arith in
                    let front : take i (take (suc i) lines) ≡ take i lines = take-take i (suc i) lines (omega arith) in
                    absurd ((H.next i (omega arith)).first a
                    (inr (
                      (
                        p,
                        v,
                        omega (arith, length-take-le i lines (omega arith)),
                        w.0.3,
                        ap is_stair (front_line lines i p before ∙ sym there) ∙ w.0.4,
                        ap (λ x. times (monomial_of x) (variable v)) (front_line lines i p before) ∙ product,
                      ),
                      (λ j. w.1 (judged_front (take (suc i) lines) i a (omega arith) (subst (λ x. Judged x a) (sym front) j))),
                      (λ j. w.2 (multiple_front (take (suc i) lines) i a (omega arith) (subst (λ x. Multiple x a) (sym front) j))),
                    ))
                    h)
              ]
            ]
      ]

-- the first of kept lines are kept
pub front_kept : (U : SetUp) (lines : List Line) (n : ℕ) → n ≤ length lines → Kept U lines → Kept U (take n lines)
front_kept U lines n h H = record {
  next = λ i l.
      let b : i < n = omega (arith, length-take-le n lines h) in
      subst₂ (λ x y. Next U.subject.variables U.order x (monomial_of y)) (sym (take-take i n lines (omega arith))) (sym (front_line lines n i b)) (H.next i (omega arith));
  stands = front_stands U.subject U.field lines n h H.stands;
}
