-- Monomials with exponents of any size, as the theory has them.
use Rattle.std.specs.Prelude.{◌≡◌, ℕ, zero, suc, ◌+◌, ◌≤◌, Bool, ◌&&◌, List, ◌==◌, slice_index}

-- a monomial, by its four exponents
pub record Mono : Type 0 where
  pub e0 : ℕ
  pub e1 : ℕ
  pub e2 : ℕ
  pub e3 : ℕ

-- the four exponents that a list begins with
abbrev pub mono : List ℕ → Mono
mono es = record { e0 = slice_index es 0; e1 = slice_index es 1; e2 = slice_index es 2; e3 = slice_index es 3 }

-- 1
abbrev pub one : Mono
one = record { e0 = 0; e1 = 0; e2 = 0; e3 = 0 }

-- the product
abbrev pub times : Mono → Mono → Mono
times a b = record { e0 = a.e0 + b.e0; e1 = a.e1 + b.e1; e2 = a.e2 + b.e2; e3 = a.e3 + b.e3 }

-- the variable of a number, counted from 0; past the fourth, 1
abbrev pub variable : ℕ → Mono
variable zero = record { e0 = 1; e1 = 0; e2 = 0; e3 = 0 }
variable (suc zero) = record { e0 = 0; e1 = 1; e2 = 0; e3 = 0 }
variable (suc (suc zero)) = record { e0 = 0; e1 = 0; e2 = 1; e3 = 0 }
variable (suc (suc (suc zero))) = record { e0 = 0; e1 = 0; e2 = 0; e3 = 1 }
variable (suc (suc (suc (suc n)))) = one

-- no exponent of a is above that of b
pub record Divides (a b : Mono) : Type 0 where
  pub d0 : a.e0 ≤ b.e0
  pub d1 : a.e1 ≤ b.e1
  pub d2 : a.e2 ≤ b.e2
  pub d3 : a.e3 ≤ b.e3

-- the exponent of a variable, by its number from 0; past the fourth, 0
abbrev pub exponent : Mono → ℕ → ℕ
exponent a zero = a.e0
exponent a (suc zero) = a.e1
exponent a (suc (suc zero)) = a.e2
exponent a (suc (suc (suc zero))) = a.e3
exponent a (suc (suc (suc (suc n)))) = 0

-- the sum of the exponents
abbrev pub degree : Mono → ℕ
degree a = a.e0 + a.e1 + a.e2 + a.e3

-- only the first m variables occur
abbrev pub Within : ℕ → Mono → Type 0
Within m a = (k : ℕ) → m ≤ k → exponent a k ≡ 0

-- whether all exponents are equal
abbrev pub same : Mono → Mono → Bool
same a b = a.e0 == b.e0 && (a.e1 == b.e1 && (a.e2 == b.e2 && a.e3 == b.e3))
