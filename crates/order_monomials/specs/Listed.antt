-- The list of all monomials up to a degree.
use Rattle.std.specs.Prelude.{◌≡◌, ℕ, ◌<◌, ◌≤◌, List, [], ◌∷◌, length}
use Rattle.monomials.specs.declared.monomial.Monomial.{Monomial}
use Rattle.monomials.specs.Monomials.{Mono, degree, Within}
use Rattle.order_monomials.specs.Ascending.{at}

-- the product of powers of the first two variables
abbrev pub in_two : ℕ → ℕ → Monomial
in_two first second = record { exponents = first ∷ second ∷ 0 ∷ 0 ∷ [] }

-- a list of the monomials in so many variables of degree up to a bound: only those, every one, and each once
pub record AllUpTo (variables bound : ℕ) (monomials : List Monomial) : Type 0 where
  pub only : (k : ℕ) → k < length monomials → Within variables (at monomials k) × (degree (at monomials k) ≤ bound)
  pub every : (a : Mono) → Within variables a → degree a ≤ bound → (k : ℕ) × (k < length monomials) × (at monomials k ≡ a)
  pub once : (j k : ℕ) → j < length monomials → k < length monomials → at monomials j ≡ at monomials k → j ≡ k
