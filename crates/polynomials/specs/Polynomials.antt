-- A polynomial is a list of summands in any order; summands at equal monomials add up, and the empty list is zero.
use Rattle.std.specs.Prelude.{ℕ, cond, List, [], ◌∷◌}
use Rattle.fields.specs.Arithmetic.{Arithmetic}
use Rattle.monomials.specs.Monomials.{Mono, times, same, Within}

-- a code at a monomial
pub record Summand : Type 0 where
  pub at : Mono
  pub code : ℕ

abbrev pub Poly : Type 0
Poly = List Summand

-- the sum of the codes times what f gives at their monomials
abbrev pub applied : Arithmetic → (Mono → ℕ) → Poly → ℕ
applied A f [] = 0
applied A f (t ∷ ts) = A.sum (A.product t.code (f t.at)) (applied A f ts)

-- 1 at the monomial a, and 0 at any other
abbrev pub indicator : Mono → Mono → ℕ
indicator a b = cond (same a b) 1 0

-- the coefficient at a monomial
abbrev pub coefficient : Arithmetic → Poly → Mono → ℕ
coefficient A p a = applied A (indicator a) p

-- the polynomial times a monomial
abbrev pub moved_by : Mono → Poly → Poly
moved_by a [] = []
moved_by a (t ∷ ts) = record { at = times t.at a; code = t.code } ∷ moved_by a ts

-- a fact of each summand's monomial
abbrev pub Each : (Mono → Type 0) → Poly → Type 0
Each P [] = Unit {0}
Each P (t ∷ ts) = P t.at × Each P ts

-- only the first m variables occur
abbrev pub InVariables : ℕ → Poly → Type 0
InVariables m p = Each (Within m) p
