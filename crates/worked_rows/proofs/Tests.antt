-- Tests by computation: that lines are kept to a set-up and finished, and that two polynomials are the same.
use Rattle.std.proofs.Common.{◌≡◌, ℕ, zero, suc, ◌<◌, Bool, true, false, ◌&&◌, ◌||◌, refl, ap, ◌∙◌, inl, inr, arith}
use Rattle.std.proofs.lemmas.Bool.{cases_eq, both_ways, and_parts, or_cases, or_parts}

-- whether every number below n passes
unfoldable pub every : ℕ → (ℕ → Bool) → Bool
every zero f = true
every (suc n) f = every n f && f n

-- each does
pub every_sound : (n : ℕ) (f : ℕ → Bool) → every n f ≡ true → (k : ℕ) → k < n → f k ≡ true
unfolding every
every_sound zero f h k l = absurd (omega arith)
every_sound (suc n) f h k l =
    let p = and_parts (every n f) (f n) h in
    elim (cases_eq k n) [ inl e ↦ ap f e ∙ p.1 | inr d ↦ every_sound n f p.0 k (omega arith) ]

-- whether some number below n passes
unfoldable pub some : ℕ → (ℕ → Bool) → Bool
some zero f = false
some (suc n) f = some n f || f n

-- one does
pub some_sound : (n : ℕ) (f : ℕ → Bool) → some n f ≡ true → (k : ℕ) × (k < n) × (f k ≡ true)
unfolding some
some_sound zero f h = absurd (both_ways false refl h)
some_sound (suc n) f h = elim (or_cases (some n f) (f n) h) [
  | inl s ↦ let (k, l, e) = some_sound n f s in (k, omega arith, e)
  | inr e ↦ (n, omega arith, e)
]

-- none does
pub some_complete : (n : ℕ) (f : ℕ → Bool) → some n f ≡ false → (k : ℕ) → k < n → f k ≡ false
unfolding some
some_complete zero f h k l = absurd (omega arith)
some_complete (suc n) f h k l =
    let p = or_parts (some n f) (f n) h in
    elim (cases_eq k n) [ inl e ↦ ap f e ∙ p.1 | inr d ↦ some_complete n f p.0 k (omega arith) ]
