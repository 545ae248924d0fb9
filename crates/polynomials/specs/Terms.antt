-- Lists of terms, as they are lent: the polynomial they stand for, and their faults.
use Rattle.std.specs.Prelude.{ℕ, ◌≤◌, List, [], ◌∷◌}
use Rattle.faults.specs.Places.{Faulty, NoneAt}
use Rattle.monomials.specs.Monomials.{Mono, mono, exponent, Within}
use Rattle.polynomials.specs.declared.term.Term.{Term}
use Rattle.polynomials.specs.Polynomials.{Poly}

-- the monomial of a term
abbrev pub monomial_of : Term → Mono
monomial_of t = mono t.monomial.exponents

-- what stands past the end of a list of terms
abbrev pub blank : Term
blank = record { monomial = record { exponents = [] }; code = 0 }

-- the polynomial that the terms stand for
abbrev pub poly : List Term → Poly
poly [] = []
poly (t ∷ ts) = record { at = monomial_of t; code = t.code } ∷ poly ts

-- the code of the term at a place is not below the order
abbrev pub TermCodeFault : ℕ → List Term → ℕ → Type 0
TermCodeFault order ts = Faulty blank (λ t. order ≤ t.code) ts

-- no exponent is above 4,095, and only the first m variables occur
pub record Admitted (m : ℕ) (a : Mono) : Type 0 where
  pub small : (v : ℕ) → exponent a v ≤ 4095
  pub variables : Within m a

-- the monomial of the term at a place is not admitted
abbrev pub ExponentFault : ℕ → List Term → ℕ → Type 0
ExponentFault m ts = Faulty blank (λ t. Admitted m (monomial_of t) → ⊥) ts

-- no term is at fault
pub record TermsAdmitted (m order : ℕ) (ts : List Term) : Type 0 where
  pub codes : NoneAt (TermCodeFault order ts)
  pub exponents : NoneAt (ExponentFault m ts)
