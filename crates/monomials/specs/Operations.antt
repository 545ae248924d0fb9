-- What the operations on monomials answer.
use Rattle.std.specs.Prelude.{◌≡◌, ℕ, ◌<◌, Some, None, Option}
use Rattle.monomials.specs.declared.monomial.Monomial.{Monomial}
use Rattle.monomials.specs.Monomials.{Mono, mono, times, variable, exponent}

-- the largest exponent of 16 bits
abbrev pub largest_exponent : ℕ
largest_exponent = 65535

-- the product by one of the four variables; absent past the fourth, and where the exponent is the largest already
abbrev pub ProductByVariable : Mono → ℕ → Option Monomial → Type 0
ProductByVariable a v (Some p) = (v < 4) × (exponent a v < largest_exponent) × (mono p.exponents ≡ times a (variable v))
ProductByVariable a v None = v < 4 → exponent a v ≡ largest_exponent
