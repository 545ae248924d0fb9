-- Finitely many products of stairs by variables can wait: so it is decided whether lines are finished, and one is next if not.
use Rattle.std.proofs.Common.{◌≡◌, ℕ, ◌+◌, ◌*◌, ◌/◌, ◌%◌, ◌<◌, true, ◌⊎◌, List, length, sym, refl, ap, ◌∙◌, subst, ap₂, inl, inr, mod-lt, div-lt_iff_lt-mul, arith}
use lib.Arith.{digits_lt, digits_div, digits_mod}
use Rattle.std.proofs.lemmas.Bool.{cases_eq, cases_Bool, both_ways}
use Rattle.fields.proofs.Counting.{cases_below}
use Rattle.fields.proofs.Listings.{first_below}
use Rattle.monomials.specs.Monomials.{Mono, one, times, variable}
use Rattle.monomials.specs.Orders.{Order, OrderLaws, Before}
use Rattle.monomials.proofs.Orders as orders
use Rattle.rows.specs.declared.line.Line.{Line}
use Rattle.rows.specs.Lines.{monomial_of, line, is_stair}
use Rattle.rows.specs.Sheets.{Judged, Multiple, Waits, Next, Finished}
use Rattle.rows.proofs.Waiting.{cases_judged, cases_multiple}

-- no line can wait to be the first twice
pub first_waits : (m : ℕ) (lines : List Line) (a : Mono) → length lines ≡ 0 → Waits m lines a → a ≡ one
first_waits m lines a e (inl w) = w.1
first_waits m lines a e (inr w) = absurd (omega (arith, e, w.0.2))

module _ (m : ℕ) (lines : List Line) where
  -- the products, counted line by line and variable by variable
  abbrev pub product : ℕ → Mono
  product k = times (monomial_of (line lines (k / m))) (variable (k % m))

  -- a product that waits
  abbrev pub Open : ℕ → Type 0
  Open k = (is_stair (line lines (k / m)) ≡ true) × (Judged lines (product k) → ⊥) × (Multiple lines (product k) → ⊥)

  -- whether it waits
  pub cases_open : (k : ℕ) → Open k ⊎ (Open k → ⊥)
  cases_open k = elim (cases_Bool (is_stair (line lines (k / m)))) [
    | inr f ↦ inr (λ h. both_ways (is_stair (line lines (k / m))) f h.0)
    | inl t ↦ elim (cases_judged lines (product k)) [
      | inl j ↦ inr (λ h. h.1 j)
      | inr nj ↦ elim (cases_multiple lines (product k)) [ inl j ↦ inr (λ h. h.2 j) | inr nm ↦ inl (t, nj, nm) ]
    ]
  ]

  -- a product that is open waits
  pub open_waits : 0 < m → (k : ℕ) → k < length lines * m → Open k → Waits m lines (product k)
  open_waits p k l h = inr ((k / m, k % m, (div-lt_iff_lt-mul p).1 l, mod-lt k p, h.0, refl), h.1, h.2)

  -- what waits after the first line is a product that is open
  pub waits_open : 0 < length lines → (a : Mono) → Waits m lines a → (k : ℕ) × (k < length lines * m) × (product k ≡ a) × Open k
  waits_open p a (inl w) = absurd (omega (arith, w.0))
  waits_open p a (inr w) =
      let i : ℕ = w.0.0 in
      let v : ℕ = w.0.1 in
      let k : ℕ = i * m + v in
      let row : k / m ≡ i = digits_div i w.0.3 in
      let e : product k ≡ a = ap₂ (λ x y. times (monomial_of (line lines x)) (variable y)) row (digits_mod i w.0.3) ∙ w.0.5 in (
        k,
        digits_lt w.0.2 w.0.3,
        e,
        (
          ap (λ x. is_stair (line lines x)) row ∙ w.0.4,
          (λ j. w.1 (subst (Judged lines) e j)),
          (λ j. w.2 (subst (Multiple lines) e j)),
        ),
      )

  -- whether lines are finished
  pub cases_finished : Finished m lines ⊎ (Finished m lines → ⊥)
  cases_finished = elim (cases_eq (length lines) 0) [
    | inl e ↦ inr (λ F. F one (inl (e, refl)))
    | inr d ↦ elim (cases_eq m 0) [
      | inl z ↦ inl (λ a w. elim w [ inl u ↦ d u.0 | inr u ↦ omega (arith, u.0.3) ])
      | inr p ↦ elim (cases_below Open cases_open (length lines * m)) [
        | inl (k, l, h) ↦ inr (λ F. F (product k) (open_waits (omega arith) k l h))
        | inr none ↦ inl (λ a w. let (k, l, e, h) = waits_open (omega arith) a w in none k l h)
      ]
    ]
  ]

  -- by an order, something is next, or the lines are finished
  pub next_or_finished : (O : Order) → OrderLaws O → 0 < m → ((a : Mono) × Next m O lines a) ⊎ Finished m lines
  next_or_finished O L p = elim (cases_eq (length lines) 0) [
    | inl e ↦ inl (
      one,
      record {
        waits = inl (e, refl);
        first = λ b w h. orders.never_before O L one (subst (λ x. Before O x one) (first_waits m lines b e w) h);
      },
    )
    | inr d ↦ elim (first_below (λ i j. Before O (product i) (product j)) (λ i. orders.never_before O L (product i))
        (λ i j k. L.transitive (product i) (product j) (product k))
        (λ i j. elim (orders.compared O L (product i) (product j)) [
          | inl h ↦ inl h
          | inr (inl e) ↦ inr (λ h. orders.never_before O L (product j) (subst (λ x. Before O x (product j)) e h))
          | inr (inr h) ↦ inr (λ g. orders.never_before O L (product i) (L.transitive (product i) (product j) (product i) g h))
        ])
        Open cases_open (length lines * m)) [
          | inl (k, F) ↦ inl (
            product k,
            record {
              waits = open_waits p k F.inside F.passes;
              first = λ b w h.
                  let (i, l, e, o) = waits_open (omega arith) b w in
                  F.first i l o (subst (λ x. Before O x (product k)) (sym e) h);
            },
          )
          | inr none ↦ inr (λ a w. let (k, l, e, h) = waits_open (omega arith) a w in none k l h)
        ]
  ]
