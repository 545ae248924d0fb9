-- The table of the ten monomials: the place of each is computed.
use Rattle.std.proofs.Common.{◌≡◌, ℕ, zero, suc, ◌+◌, ◌<◌, ◌≤◌, List, [], ◌∷◌, sym, refl, ap, ◌∙◌, arith}
use Rattle.monomials.specs.declared.monomial.Monomial.{Monomial}
use Rattle.monomials.specs.Monomials.{Mono, degree, Within}
use Rattle.monomials.specs.MonomialsLemmas.{mono_path}
use Rattle.order_monomials.specs.Ascending.{at}
use Rattle.order_monomials.specs.Listed.{in_two, AllUpTo}

-- the table
abbrev pub table : List Monomial
table = in_two 0 0 ∷ in_two 0 1 ∷ in_two 0 2 ∷ in_two 0 3 ∷ in_two 1 0 ∷ in_two 1 1 ∷ in_two 1 2 ∷ in_two 2 0 ∷ in_two 2 1 ∷ in_two 3 0 ∷ []

-- where the monomials with a first exponent begin
abbrev row : ℕ → ℕ
row zero = 0
row (suc zero) = 4
row (suc (suc zero)) = 7
row (suc (suc (suc n))) = 9

-- the place of a monomial
abbrev place : Mono → ℕ
place a = row a.e0 + a.e1

-- each stands at its place
at_place : (k : ℕ) → k < 10 → place (at table k) ≡ k
at_place k h = grind arith

-- two exponents whose sum is up to 3
found : (i j : ℕ) → i + j ≤ 3 → (k : ℕ) × (k < 10) × (at table k ≡ record { e0 = i; e1 = j; e2 = 0; e3 = 0 })
found zero zero h = (0, omega arith, refl)
found zero (suc zero) h = (1, omega arith, refl)
found zero (suc (suc zero)) h = (2, omega arith, refl)
found zero (suc (suc (suc zero))) h = (3, omega arith, refl)
found zero (suc (suc (suc (suc j)))) h = absurd (omega arith)
found (suc zero) zero h = (4, omega arith, refl)
found (suc zero) (suc zero) h = (5, omega arith, refl)
found (suc zero) (suc (suc zero)) h = (6, omega arith, refl)
found (suc zero) (suc (suc (suc j))) h = absurd (omega arith)
found (suc (suc zero)) zero h = (7, omega arith, refl)
found (suc (suc zero)) (suc zero) h = (8, omega arith, refl)
found (suc (suc zero)) (suc (suc j)) h = absurd (omega arith)
found (suc (suc (suc zero))) zero h = (9, omega arith, refl)
found (suc (suc (suc zero))) (suc j) h = absurd (omega arith)
found (suc (suc (suc (suc i)))) j h = absurd (omega arith)

-- none is of another degree or has another variable
only_these : (k : ℕ) → k < 10 → Within 2 (at table k) × (degree (at table k) ≤ 3)
only_these k h = (λ v l. grind arith, grind arith)

pub table_lists : AllUpTo 2 3 table
table_lists = record {
  only = only_these;
  every = λ a w d.
      let z2 : a.e2 ≡ 0 = w 2 (omega arith) in
      let z3 : a.e3 ≡ 0 = w 3 (omega arith) in
      let (k, h, e) = found a.e0 a.e1 (omega arith) in
      (k, h, e ∙ mono_path refl refl (sym z2) (sym z3));
  once = λ j k h l e. sym (at_place j h) ∙ ap place e ∙ at_place k l;
}
