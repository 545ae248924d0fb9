-- Terms: when their exponents are admitted, and what they give from a place on.
use Rattle.std.proofs.Common.{◌≡◌, ℕ, ◌+◌, ◌<◌, ◌≤◌, ◌↔◌, Bool, true, cond, nat_le, nat_lt, MatchBool, List, length, get_or, drop, sym, ap, subst, ◌∙◌, inl, inr, arith, leb-true, le-leb}
use Rattle.std.proofs.lemmas.List.{drop_more, drop_all, get_or_default}
use Rattle.std.proofs.lemmas.List.Sums.{AllPass-from_list_all, list_all-from_AllPass}
use Rattle.std.proofs.lemmas.Bool.{cases_lt, cases_Bool, both_ways, lt-ltb, le-ltb}
use Rattle.std.proofs.lemmas.List.FromFn.{get_or-enumerate_from, length-enumerate_from}
use Rattle.std.specs.List.{list_all, enumerate_from}
use Rattle.fields.specs.Arithmetic.{Arithmetic, RingLaws}
use Rattle.fields.proofs.Rings as rings
use Rattle.monomials.specs.Monomials.{Mono, mono}
use Rattle.monomials.specs.MonomialsLemmas.{exponent_mono, within_four}
use Rattle.polynomials.specs.declared.term.Term.{Term}
use Rattle.polynomials.specs.Polynomials.{applied}
use Rattle.polynomials.specs.Terms.{monomial_of, poly, Admitted}

-- the exponent in a place is small, and zero beyond m
pub record Fine (m : ℕ) (es : List ℕ) (v : ℕ) : Type 0 where
  pub small : get_or es v 0 ≤ 4095
  pub zero_beyond : m ≤ v → get_or es v 0 ≡ 0

-- four fine exponents make an admitted monomial
pub admitted : (m : ℕ) (es : List ℕ) → ((v : ℕ) → v < 4 → Fine m es v) → Admitted m (mono es)
admitted m es h = record {
  small = λ v. elim (cases_lt v 4) [ inl l ↦ omega (arith, exponent_mono es v l, (h v l).small) | inr g ↦ omega (arith, within_four (mono es) v g) ];
  variables = λ v b. elim (cases_lt v 4) [ inl l ↦ exponent_mono es v l ∙ (h v l).zero_beyond b | inr g ↦ within_four (mono es) v g ];
}

-- and the exponents of an admitted monomial are fine
pub fine : (m : ℕ) (es : List ℕ) → Admitted m (mono es) → (v : ℕ) → v < 4 → Fine m es v
fine m es a v l = record {
  small = omega (arith, exponent_mono es v l, a.small v);
  zero_beyond = λ b. omega (arith, exponent_mono es v l, a.variables v b);
}

-- the largest exponent that a variable may have, of the first m or beyond them
abbrev pub largest_at : ℕ → ℕ → ℕ
largest_at m v = cond (nat_lt v m) 4095 0

-- whether the exponent of a variable is no larger
abbrev pub is_small : ℕ → ℕ × ℕ → Bool
is_small m p = nat_le p.1 (largest_at m p.0)

-- an exponent that is no larger is fine, and the other way round
small_fine : (m : ℕ) (es : List ℕ) (v : ℕ) → (get_or es v 0 ≤ largest_at m v) ↔ Fine m es v
small_fine m es v = elim (cases_lt v m) [
  | inl l ↦ rw (lt-ltb v m l) (λ h. record { small = h; zero_beyond = λ b. absurd (omega (arith, l, b)) }, λ f. f.small)
  | inr g ↦ rw (le-ltb v m g) (λ h. record { small = omega (arith, h); zero_beyond = λ b. omega (arith, h) }, λ f. omega (arith, f.zero_beyond g))
]

-- an exponent, counted from 0, with the variable that is its place
counted : (es : List ℕ) (v : ℕ) (d : ℕ × ℕ) → v < length es → get_or (enumerate_from 0 es) v d ≡ (v, get_or es v d.1)
counted es v d l = get_or-enumerate_from 0 es v d l ∙ ap (λ w. (w, get_or es v d.1)) (omega arith)

-- the test of each exponent tells whether the monomial is admitted
pub admitted_cases : (m : ℕ) (es : List ℕ) → length es ≡ 4 →
    MatchBool (list_all (is_small m) (enumerate_from 0 es)) (Admitted m (mono es)) (Admitted m (mono es) → ⊥)
admitted_cases m es h = elim (cases_Bool (list_all (is_small m) (enumerate_from 0 es))) [
  | inl t ↦ subst (λ r. MatchBool r (Admitted m (mono es)) (Admitted m (mono es) → ⊥)) (sym t) (admitted m es (λ v l.
      (small_fine m es v).0 (leb-true _ _
      (subst (λ p. is_small m p ≡ true) (counted es v (0, 0) (omega (arith, h)))
      (AllPass-from_list_all (is_small m) (enumerate_from 0 es) t v (0, 0) (omega (arith, h, length-enumerate_from 0 es)))))))
  | inr f ↦ subst (λ r. MatchBool r (Admitted m (mono es)) (Admitted m (mono es) → ⊥)) (sym f) (λ a.
      both_ways _ f (list_all-from_AllPass (is_small m) (enumerate_from 0 es) (λ v d l.
      subst (λ p. is_small m p ≡ true) (sym (counted es v d (omega (arith, l, length-enumerate_from 0 es))))
      (le-leb _ _ (omega (arith, get_or_default es v d.1 0 (omega (arith, l, length-enumerate_from 0 es)), (small_fine m es v).1 (fine m es a v (omega (arith, h, l, length-enumerate_from 0 es)))))))))
]

-- the terms from a place on give what the term there gives, and what the terms after it give
pub applied_from : (A : Arithmetic) (f : Mono → ℕ) (ts : List Term) (i : ℕ) (d : Term) → i < length ts →
    applied A f (poly (drop i ts)) ≡ A.sum (A.product (get_or ts i d).code (f (monomial_of (get_or ts i d)))) (applied A f (poly (drop (i + 1) ts)))
applied_from A f ts i d h = ap (λ x. applied A f (poly x)) (drop_more ts i d h)

-- one turn of a sum over terms: the term at a place goes from what is left to the sum
pub turn : (A : Arithmetic) → RingLaws A → (f : Mono → ℕ) (ts : List Term) (i : ℕ) (d : Term) (sum : ℕ) → i < length ts →
    A.sum (A.sum sum (A.product (get_or ts i d).code (f (monomial_of (get_or ts i d))))) (applied A f (poly (drop (i + 1) ts))) ≡
    A.sum sum (applied A f (poly (drop i ts)))
turn A L f ts i d sum h =
    L.sum_assoc sum (A.product (get_or ts i d).code (f (monomial_of (get_or ts i d)))) (applied A f (poly (drop (i + 1) ts))) ∙
    ap (A.sum sum) (sym (applied_from A f ts i d h))

-- after the last term the sum is all
pub all_summed : (A : Arithmetic) → RingLaws A → (f : Mono → ℕ) (ts : List Term) (i : ℕ) (sum : ℕ) → length ts ≤ i → sum < A.order →
    A.sum sum (applied A f (poly (drop i ts))) ≡ applied A f (poly ts) → sum ≡ applied A f (poly ts)
all_summed A L f ts i sum h below e =
    sym (rings.plus_zero A L below) ∙ ap (λ x. A.sum sum (applied A f (poly x))) (sym (drop_all i ts h)) ∙ e
