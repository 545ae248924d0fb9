-- The lexicographic order is that of the leftmost exponent in which two monomials differ.
use Rattle.std.proofs.Common.{◌≡◌, ℕ, zero, suc, Decides, ap, inl, inr, arith}
use Rattle.std.proofs.lemmas.Bool.Decides.{nat_tests}
use Rattle.std.specs.Ordering.{is_lt}
use Rattle.monomials.specs.Monomials.{Mono}
use Rattle.monomials.specs.Orders.{Order, Before}
use Rattle.monomials.specs.Rules.{by, tied, lexicographic, LeftmostPositive}
use Rattle.monomials.proofs.Orders.{before_from_test}
use Rattle.monomials.specs.RulesLemmas.{before_cases}

-- what decides from the second exponent on
abbrev from1 : Order
from1 = by (λ a. a.e1) (by (λ a. a.e2) (by (λ a. a.e3) tied))

-- from the third
abbrev from2 : Order
from2 = by (λ a. a.e2) (by (λ a. a.e3) tied)

-- and from the fourth
abbrev from3 : Order
from3 = by (λ a. a.e3) tied

-- the leftmost difference decides
pub before_from_leftmost : (a b : Mono) → LeftmostPositive a b → Before lexicographic a b
before_from_leftmost a b (zero, h, l) = grind (arith, nat_tests)
before_from_leftmost a b (suc zero, h, l) = let h0 = h 0 (omega arith) in grind (arith, nat_tests)
before_from_leftmost a b (suc (suc zero), h, l) = let h0 = h 0 (omega arith) in let h1 = h 1 (omega arith) in grind (arith, nat_tests)
before_from_leftmost a b (suc (suc (suc zero)), h, l) =
    let h0 = h 0 (omega arith) in let h1 = h 1 (omega arith) in let h2 = h 2 (omega arith) in grind (arith, nat_tests)
before_from_leftmost a b (suc (suc (suc (suc k))), h, l) = absurd (omega arith)

-- what stands before has the leftmost difference in its favour
pub leftmost_from_before : (a b : Mono) → Before lexicographic a b → LeftmostPositive a b
leftmost_from_before a b h = elim (before_cases (λ x. x.e0) from1 a b h) [
  | inl l ↦ (0, λ j p. absurd (omega arith), l)
  | inr (d0, h1) ↦ elim (before_cases (λ x. x.e1) from2 a b h1) [
    | inl l ↦ (1, λ j p. grind arith, l)
    | inr (d1, h2) ↦ elim (before_cases (λ x. x.e2) from3 a b h2) [
      | inl l ↦ (2, λ j p. grind arith, l)
      | inr (d2, h3) ↦ elim (before_cases (λ x. x.e3) tied a b h3) [
        | inl l ↦ (3, λ j p. grind arith, l)
        | inr (d3, h4) ↦ let z : ◌≡◌ {A = ℕ} 0 1 = cc in absurd (omega arith)
      ]
    ]
  ]
]

-- before exactly where the leftmost difference is in favour
pub leftmost_decides : (a b : Mono) → Decides (is_lt (lexicographic a b)) (LeftmostPositive a b)
leftmost_decides a b = (λ t. leftmost_from_before a b (before_from_test (lexicographic a b) t), λ l. ap is_lt (before_from_leftmost a b l))
