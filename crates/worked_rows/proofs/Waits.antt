-- Whether a monomial is next, and whether lines are finished, by computation.
use Rattle.std.proofs.Common.{◌≡◌, ℕ, ◌<◌, Bool, true, false, cond, not, ◌&&◌, ◌||◌, eqb, leb, ◌⊎◌, List, length, sym, ap, ◌∙◌, subst, inl, inr, arith}
use Rattle.std.specs.Ordering.{is_lt}
use Rattle.std.proofs.lemmas.Bool.{cases_Bool, both_ways, not-true, not_from_false, and_parts, and_from, or_cases, or_parts, eqb-true, eqb-false, leb-true, le-leb, cond-true, cond-false}
use Rattle.monomials.specs.Monomials.{Mono, one, times, variable, Divides, same}
use Rattle.monomials.specs.Orders.{Order, OrderLaws, Before}
use Rattle.monomials.specs.MonomialsLemmas.{same_true, same_self}
use Rattle.monomials.proofs.Orders as orders
use Rattle.rows.specs.declared.line.Line.{Line}
use Rattle.rows.specs.Lines.{monomial_of, line, is_stair, is_relation}
use Rattle.rows.specs.Sheets.{Judged, Multiple, Next, Finished}
use Rattle.worked_rows.proofs.Tests.{every, every_sound, some, some_sound, some_complete}

-- whether a monomial divides another
unfoldable pub divides? : Mono → Mono → Bool
divides? a b = leb a.e0 b.e0 && (leb a.e1 b.e1 && (leb a.e2 b.e2 && leb a.e3 b.e3))

-- it does
divides_yes : (a b : Mono) → divides? a b ≡ true → Divides a b
unfolding divides?
divides_yes a b h =
    let (h0, r0) = and_parts _ _ h in
    let (h1, r1) = and_parts _ _ r0 in
    let (h2, h3) = and_parts _ _ r1 in
    record { d0 = leb-true _ _ h0; d1 = leb-true _ _ h1; d2 = leb-true _ _ h2; d3 = leb-true _ _ h3 }

-- where it does, the test says so
divides_tells : (a b : Mono) → Divides a b → divides? a b ≡ true
unfolding divides?
divides_tells a b d = and_from _ _ (le-leb _ _ d.d0) (and_from _ _ (le-leb _ _ d.d1) (and_from _ _ (le-leb _ _ d.d2) (le-leb _ _ d.d3)))

-- whether a monomial is judged
unfoldable pub judged? : List Line → Mono → Bool
judged? lines a = some (length lines) (λ i. same (monomial_of (line lines i)) a)

-- whether it is a multiple of a listed lead
unfoldable pub multiple? : List Line → Mono → Bool
multiple? lines a = some (length lines) (λ i. is_relation (line lines i) && divides? (monomial_of (line lines i)) a)

-- whether it is one of the two
unfoldable pub settled? : List Line → Mono → Bool
settled? lines a = judged? lines a || multiple? lines a

module _ (lines : List Line) (a : Mono) where
  -- it is one of the two
  settled_yes : settled? lines a ≡ true → Judged lines a ⊎ Multiple lines a
  unfolding settled? judged? multiple?
  settled_yes h =
      let is : ℕ → Bool = λ i. same (monomial_of (line lines i)) a in
      let over : ℕ → Bool = λ i. is_relation (line lines i) && divides? (monomial_of (line lines i)) a in
      elim (or_cases (some (length lines) is) (some (length lines) over) h) [
        | inl j ↦ let (i, l, e) = some_sound (length lines) is j in inl (i, l, same_true (monomial_of (line lines i)) a e)
        | inr j ↦
            let (i, l, e) = some_sound (length lines) over j in
            let (r, d) = and_parts (is_relation (line lines i)) (divides? (monomial_of (line lines i)) a) e in
            inr (i, l, not-true (is_stair (line lines i)) r, divides_yes (monomial_of (line lines i)) a d)
      ]

  -- it is not judged
  judged_no : settled? lines a ≡ false → Judged lines a → ⊥
  unfolding settled? judged? multiple?
  judged_no h (i, l, e) =
      both_ways (same (monomial_of (line lines i)) a) (some_complete (length lines) (λ i. same (monomial_of (line lines i)) a) (or_parts _ _ h).0 i l)
      (ap (same (monomial_of (line lines i))) (sym e) ∙ same_self (monomial_of (line lines i)))

  -- it is no multiple
  multiple_no : settled? lines a ≡ false → Multiple lines a → ⊥
  unfolding settled? judged? multiple?
  multiple_no h (i, l, f, d) =
      both_ways (is_relation (line lines i) && divides? (monomial_of (line lines i)) a)
      (some_complete (length lines) (λ i. is_relation (line lines i) && divides? (monomial_of (line lines i)) a) (or_parts _ _ h).1 i l)
      (and_from _ _ (not_from_false _ f) (divides_tells _ _ d))

-- a fact of each product of a stair by a variable
unfoldable pub every_product : ℕ → List Line → (Mono → Bool) → Bool
every_product m lines f = every (length lines) (λ i. every m (λ v. is_relation (line lines i) || f (times (monomial_of (line lines i)) (variable v))))

-- each has it
product_passes : (m : ℕ) (lines : List Line) (f : Mono → Bool) → every_product m lines f ≡ true → (i v : ℕ) → i < length lines → v < m →
    is_stair (line lines i) ≡ true → f (times (monomial_of (line lines i)) (variable v)) ≡ true
unfolding every_product
product_passes m lines f h i v l k t =
    elim (or_cases _ _ (every_sound m (λ v. is_relation (line lines i) || f (times (monomial_of (line lines i)) (variable v)))
    (every_sound (length lines) (λ i. every m (λ v. is_relation (line lines i) || f (times (monomial_of (line lines i)) (variable v)))) h i l) v k)) [
      | inl r ↦ absurd (both_ways (is_stair (line lines i)) (not-true _ r) t)
      | inr p ↦ p
    ]

-- whether lines are finished
unfoldable pub finished? : ℕ → List Line → Bool
finished? m lines = not (eqb (length lines) 0) && every_product m lines (settled? lines)

-- they are
pub finished_sound : (m : ℕ) (lines : List Line) → finished? m lines ≡ true → Finished m lines
unfolding finished?
finished_sound m lines h a w =
    let (some_line, products) = and_parts _ _ h in
    elim w [
      | inl u ↦ eqb-false (length lines) 0 (not-true _ some_line) u.0
      | inr ((i, v, l, k, t, e), nj, nm) ↦ elim (settled_yes lines a (subst (λ x. settled? lines x ≡ true) e (product_passes m lines (settled? lines) products i v l k t))) [
        | inl j ↦ nj j
        | inr j ↦ nm j
      ]
    ]

-- whether a monomial is a product of a stair by a variable
unfoldable pub product? : ℕ → List Line → Mono → Bool
product? m lines a = some (length lines) (λ i. some m (λ v. is_stair (line lines i) && same (times (monomial_of (line lines i)) (variable v)) a))

-- whether a monomial is next
unfoldable pub next? : ℕ → Order → List Line → Mono → Bool
next? m O lines a = cond (eqb (length lines) 0) (same a one)
    (product? m lines a && (not (settled? lines a) && every_product m lines (λ b. settled? lines b || not (is_lt (O b a)))))

module _ (m : ℕ) (O : Order) (L : OrderLaws O) (lines : List Line) (a : Mono) where
  -- at first 1 is next
  next_first : length lines ≡ 0 → a ≡ one → Next m O lines a
  next_first e s = record {
    waits = inl (e, s);
    first = λ b w h. elim w [
      | inl u ↦ orders.never_before O L a (subst (λ x. Before O x a) (u.1 ∙ sym s) h)
      | inr u ↦ omega (arith, e, u.0.2)
    ];
  }

  -- later a product is
  next_later : (length lines ≡ 0 → ⊥) → product? m lines a ≡ true → settled? lines a ≡ false →
      every_product m lines (λ b. settled? lines b || not (is_lt (O b a))) ≡ true → Next m O lines a
  unfolding product?
  next_later d p s h =
      let (i, l, q) = some_sound _ _ p in
      let (v, k, r) = some_sound _ _ q in
      let (t, e) = and_parts _ _ r in
      record {
        waits = inr ((i, v, l, k, t, same_true _ _ e), judged_no lines a s, multiple_no lines a s);
        first = λ b w g. elim w [
          | inl u ↦ d u.0
          | inr ((i, v, l, k, t, e), nj, nm) ↦
              elim (or_cases _ _ (subst (λ x. (settled? lines x || not (is_lt (O x a))) ≡ true) e (product_passes m lines (λ b. settled? lines b || not (is_lt (O b a))) h i v l k t))) [
                | inl z ↦ elim (settled_yes lines b z) [ inl j ↦ nj j | inr j ↦ nm j ]
                | inr z ↦ both_ways (is_lt (O b a)) (not-true _ z) (ap is_lt g)
              ]
        ];
      }

  -- it is
  pub next_sound : next? m O lines a ≡ true → Next m O lines a
  unfolding next?
  next_sound h = elim (cases_Bool (eqb (length lines) 0)) [
    | inl e ↦ next_first (eqb-true _ _ e) (same_true a one (sym (cond-true _ _ _ e) ∙ h))
    | inr e ↦
        let (p, r) = and_parts _ _ (sym (cond-false _ _ _ e) ∙ h) in
        let (s, z) = and_parts _ _ r in
        next_later (eqb-false _ _ e) p (not-true _ s) z
  ]
