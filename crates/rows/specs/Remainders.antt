-- The remainder of a polynomial: the combination of stairs from which it differs by a member of the ideal.
use Rattle.std.specs.Prelude.{◌≡◌, ℕ, ◌<◌, List, [], ◌∷◌, length, slice_index}
use Rattle.fields.specs.Arithmetic.{Arithmetic}
use Rattle.polynomials.specs.Polynomials.{Poly}
use Rattle.rows.specs.declared.line.Line.{Line}
use Rattle.rows.specs.Ideals.{SetUp, InIdeal}
use Rattle.rows.specs.Lines.{stairs_of, on_stairs}

-- p minus r: the terms of p, and those of r with negative codes
abbrev pub minus : Arithmetic → Poly → Poly → Poly
minus A p [] = p
minus A p (t ∷ ts) = record { at = t.at; code = A.negative t.code } ∷ minus A p ts

-- the codes, one for each stair, are those of the remainder of p
pub record Remains (U : SetUp) (row : List Line) (p : Poly) (codes : List ℕ) : Type 0 where
  pub one_each : length codes ≡ length (stairs_of row)
  pub below : (j : ℕ) → j < length codes → slice_index codes j < U.field.order
  pub differs : InIdeal U (minus U.field p (on_stairs (stairs_of row) codes))

-- exactly one combination of stairs remains
pub record OneRemainder (U : SetUp) (row : List Line) (p : Poly) : Type 0 where
  pub codes : List ℕ
  pub remains : Remains U row p codes
  pub only : (other : List ℕ) → Remains U row p other → other ≡ codes
