-- The first of the products seen so far, product by product and stair by stair.
use Rattle.std.proofs.Common.{◌≡◌, ℕ, ◌+◌, ◌<◌, Bool, true, false, not, ◌⊎◌, List, length, is_some, Some, None, Decides, Option, sym, refl, ap, ◌∙◌, subst, inl, inr, arith}
use mathlib.Core.Path.{subst⁻¹}
use Rattle.std.proofs.lemmas.Bool.{cases_eq, both_ways}
use Rattle.monomials.specs.Monomials.{Mono, mono, one, times, variable}
use Rattle.monomials.specs.Orders.{Order, OrderLaws, Before}
use Rattle.monomials.specs.declared.monomial.Monomial.{Monomial}
use Rattle.monomials.proofs.Orders as orders
use Rattle.rows.specs.declared.line.Line.{Line}
use Rattle.rows.specs.Lines.{monomial_of, line, is_stair}
use Rattle.rows.specs.Sheets.{Waits, Finished}
use Rattle.worksheet.specs.Selections.{Open, Seen, Chosen, Earlier, NextOrFinished}

-- a choice is one among others that are the same
chosen_like : (O : Order) (P Q : Mono → Type 0) → ((a : Mono) → P a → Q a) → ((a : Mono) → Q a → P a) → (r : Option Monomial) → Chosen O P r → Chosen O Q r
chosen_like O P Q there back None h = λ a q. h a (back a q)
chosen_like O P Q there back (Some c) h = (there _ h.0, λ a q. h.1 a (back a q))

module _ (m : ℕ) (lines : List Line) (O : Order) (L : OrderLaws O) where
  -- at first nothing is seen
  pub nothing_seen : Chosen O (Seen m lines 0 0) None
  nothing_seen a (j, u, inl (l, k), t, e, o) = omega arith
  nothing_seen a (j, u, inr (k, l), t, e, o) = omega arith

  -- what is seen with a product more
  seen_cases : (i v : ℕ) (a : Mono) → Seen m lines i (v + 1) a → Seen m lines i v a ⊎ (a ≡ times (monomial_of (line lines i)) (variable v))
  seen_cases i v a (j, u, inl w, t, e, o) = inl (j, u, inl w, t, e, o)
  seen_cases i v a (j, u, inr (same, l), t, e, o) = elim (cases_eq u v) [
    | inl f ↦ inr (sym e ∙ subst (λ k. times (monomial_of (line lines j)) (variable u) ≡ times (monomial_of (line lines k)) (variable u)) same refl ∙ ap (λ k. times (monomial_of (line lines i)) (variable k)) f)
    | inr d ↦ inl (j, u, inr (same, omega arith), t, e, o)
  ]

  -- what was seen is seen
  seen_still : (i v : ℕ) (a : Mono) → Seen m lines i v a → Seen m lines i (v + 1) a
  seen_still i v a (j, u, inl w, t, e, o) = (j, u, inl w, t, e, o)
  seen_still i v a (j, u, inr (same, l), t, e, o) = (j, u, inr (same, omega arith), t, e, o)

  -- a product that is not open
  pub product_passed : (i v : ℕ) (r : Option Monomial) → (Open lines (times (monomial_of (line lines i)) (variable v)) → ⊥) →
      Chosen O (Seen m lines i v) r → Chosen O (Seen m lines i (v + 1)) r
  product_passed i v r shut = chosen_like O (Seen m lines i v) (Seen m lines i (v + 1)) (seen_still i v)
      (λ a s. elim (seen_cases i v a s) [ inl h ↦ h | inr e ↦ absurd (shut (subst (Open lines) e s.5)) ]) r

  -- an open product
  pub product_taken : (i v : ℕ) (r : Option Monomial) (p q : Monomial) → is_stair (line lines i) ≡ true →
      (mono p.exponents ≡ times (monomial_of (line lines i)) (variable v)) × Open lines (times (monomial_of (line lines i)) (variable v)) →
      Earlier O r p q → Chosen O (Seen m lines i v) r → Chosen O (Seen m lines i (v + 1)) (Some q)
  product_taken i v r p q t (e, o) = go r
    where
      new : Seen m lines i (v + 1) (mono p.exponents)
      new = subst⁻¹ (Seen m lines i (v + 1)) e (i, v, inr (refl, omega arith), t, refl, o)

      itself : (a : Mono) → a ≡ times (monomial_of (line lines i)) (variable v) → Before O a (mono p.exponents) → ⊥
      itself a f b = orders.never_before O L a (subst (Before O a) (e ∙ sym f) b)

      first : (q : Monomial) → q ≡ p → ((a : Mono) → Seen m lines i v a → Before O a (mono p.exponents) → ⊥) → Chosen O (Seen m lines i (v + 1)) (Some q)
      first q f none = subst⁻¹ (λ x. Chosen O (Seen m lines i (v + 1)) (Some x)) f
          (new, λ a s. elim (seen_cases i v a s) [ inl h ↦ none a h | inr g ↦ itself a g ])

      go : (r : Option Monomial) → Earlier O r p q → Chosen O (Seen m lines i v) r → Chosen O (Seen m lines i (v + 1)) (Some q)
      go None f h = first q f (λ a s b. h a s)
      go (Some c) (inr (f, before)) h = first q f (λ a s b. h.1 a s (L.transitive a (mono p.exponents) (mono c.exponents) b before))
      go (Some c) (inl (f, not)) h = subst⁻¹ (λ x. Chosen O (Seen m lines i (v + 1)) (Some x)) f (
        seen_still i v _ h.0,
        λ a s b. elim (seen_cases i v a s) [
          | inl g ↦ h.1 a g b
          | inr g ↦ not (subst (λ x. Before O x (mono c.exponents)) (g ∙ sym e) b)
        ],
      )

  -- a stair is done
  pub stair_done : (i : ℕ) (r : Option Monomial) → Chosen O (Seen m lines i m) r → Chosen O (Seen m lines (i + 1) 0) r
  stair_done i r = chosen_like O (Seen m lines i m) (Seen m lines (i + 1) 0) there back r
    where
      there : (a : Mono) → Seen m lines i m a → Seen m lines (i + 1) 0 a
      there a (j, u, inl (l, k), t, e, o) = (j, u, inl (omega arith, k), t, e, o)
      there a (j, u, inr (same, k), t, e, o) = (j, u, inl (omega arith, k), t, e, o)

      back : (a : Mono) → Seen m lines (i + 1) 0 a → Seen m lines i m a
      back a (j, u, inr (same, k), t, e, o) = absurd (omega arith)
      back a (j, u, inl (l, k), t, e, o) = elim (cases_eq j i) [
        | inl f ↦ (j, u, inr (f, k), t, e, o)
        | inr d ↦ (j, u, inl (omega arith, k), t, e, o)
      ]

  -- a relation has no products
  pub relation_passed : (i : ℕ) (r : Option Monomial) → is_stair (line lines i) ≡ false → Chosen O (Seen m lines i 0) r → Chosen O (Seen m lines (i + 1) 0) r
  relation_passed i r f = chosen_like O (Seen m lines i 0) (Seen m lines (i + 1) 0) there back r
    where
      there : (a : Mono) → Seen m lines i 0 a → Seen m lines (i + 1) 0 a
      there a (j, u, inl (l, k), t, e, o) = (j, u, inl (omega arith, k), t, e, o)
      there a (j, u, inr (same, k), t, e, o) = absurd (omega arith)

      back : (a : Mono) → Seen m lines (i + 1) 0 a → Seen m lines i 0 a
      back a (j, u, inr (same, k), t, e, o) = absurd (omega arith)
      back a (j, u, inl (l, k), t, e, o) = elim (cases_eq j i) [
        | inl g ↦ absurd (both_ways (is_stair (line lines i)) f (subst (λ x. is_stair (line lines x) ≡ true) g t))
        | inr d ↦ (j, u, inl (omega arith, k), t, e, o)
      ]

  -- once all stairs are done, the choice is next
  pub all_seen : 0 < length lines → (i : ℕ) → i ≡ length lines → (r : Option Monomial) → Chosen O (Seen m lines i 0) r → NextOrFinished m O lines r
  all_seen some i e = go
    where
      waits_seen : (a : Mono) → Waits m lines a → Seen m lines i 0 a
      waits_seen a (inl w) = absurd (omega (arith, w.0))
      waits_seen a (inr ((j, u, l, k, t, f), o, p)) = (j, u, inl (omega arith, k), t, f, (o, p))

      seen_waits : (a : Mono) → Seen m lines i 0 a → Waits m lines a
      seen_waits a (j, u, inr (_, k), t, f, o) = absurd (omega arith)
      seen_waits a (j, u, inl (l, k), t, f, o) = inr ((j, u, omega arith, k, t, f), o.0, o.1)

      go : (r : Option Monomial) → Chosen O (Seen m lines i 0) r → NextOrFinished m O lines r
      go None h = λ a w. h a (waits_seen a w)
      go (Some c) h = record { waits = seen_waits _ h.0; first = λ b w. h.1 b (waits_seen b w) }

-- while nothing is judged, 1 is next
pub one_next : (m : ℕ) (lines : List Line) (O : Order) → OrderLaws O → (a : Monomial) → length lines ≡ 0 → mono a.exponents ≡ one → NextOrFinished m O lines (Some a)
one_next m lines O L a e f = record {
  waits = inl (e, f);
  first = λ b w before. elim w [
    | inl h ↦ orders.never_before O L b (subst (Before O b) (f ∙ sym h.1) before)
    | inr h ↦ omega (arith, e, h.0.2)
  ];
}

-- nothing is next exactly where the lines are finished
pub finished_decided : (m : ℕ) (O : Order) (lines : List Line) (r : Option Monomial) (none : Bool) → is_some r ≡ not none →
    NextOrFinished m O lines r → Decides none (Finished m lines)
finished_decided m O lines None true e F = ((λ _. F), λ _. refl)
finished_decided m O lines None false e F = absurd (both_ways false refl e)
finished_decided m O lines (Some a) true e N = absurd (both_ways true e refl)
finished_decided m O lines (Some a) false e N = ((λ e. absurd (both_ways false refl e)), λ F. absurd (F (mono a.exponents) N.waits))
