-- The orders, each by its rule.
use Rattle.std.specs.Prelude.{◌≡◌, ℕ, ◌+◌, ◌*◌, ◌<◌, cond, List, nat_lt, slice_index}
use Rattle.std.specs.declared.cmp.Ordering.TheVariants.{Less, Equal, Greater}
use Rattle.std.specs.declared.cmp.Ordering.{Ordering}
use Rattle.std.specs.Ordering.{ordering_then}
use Rattle.monomials.specs.Monomials.{Mono, exponent, degree}
use Rattle.monomials.specs.Orders.{Order}

-- the smaller number is before
abbrev pub ranked : ℕ → ℕ → Ordering
ranked x y = cond (nat_lt x y) Less (cond (nat_lt y x) Greater Equal)

-- the monomial of the smaller measure is before; equal measures go by the order below
abbrev pub by : (Mono → ℕ) → Order → Order
by measure below a b = ordering_then (ranked (measure a) (measure b)) (below a b)

-- all monomials alike
abbrev pub tied : Order
tied a b = Equal

-- the smaller first exponent is before; equal ones go by the second, then the third, then the fourth
abbrev pub lexicographic : Order
lexicographic = by (λ a. a.e0) (by (λ a. a.e1) (by (λ a. a.e2) (by (λ a. a.e3) tied)))

-- the leftmost non-zero entry of b − a is positive: up to some place the exponents are equal, and there that of b is larger
abbrev pub LeftmostPositive : Mono → Mono → Type 0
LeftmostPositive a b = (k : ℕ) × ((j : ℕ) → j < k → exponent a j ≡ exponent b j) × (exponent a k < exponent b k)

-- the smaller sum of exponents is before; equal sums go by the lexicographic order
abbrev pub graded : Order
graded = by degree lexicographic

-- the sum of the exponents, each times its weight
abbrev pub weighted_sum : List ℕ → Mono → ℕ
weighted_sum weights a = slice_index weights 0 * a.e0 + slice_index weights 1 * a.e1 + slice_index weights 2 * a.e2 + slice_index weights 3 * a.e3

-- the smaller weighted sum is before; equal sums go by the order below
abbrev pub weighted : List ℕ → Order → Order
weighted weights below = by (weighted_sum weights) below
