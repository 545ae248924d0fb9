-- The row of a set-up: its staircase monomials and the members of its reduced basis, ascending, each with its line.
use Rattle.std.specs.Prelude.{◌≡◌, ℕ, ◌<◌, cond, List, [], ◌∷◌, ◌++◌, length}
use Rattle.monomials.specs.Monomials.{Mono}
use Rattle.monomials.specs.Orders.{Before}
use Rattle.polynomials.specs.Polynomials.{Poly}
use Rattle.rows.specs.declared.line.Line.{Line}
use Rattle.rows.specs.Ideals.{SetUp, InDeltaSet, Reduced}
use Rattle.rows.specs.Lines.{monomial_of, line, is_stair, stairs_of, polynomial, AllStand}

-- the polynomials of the relations, each over the stairs before it
abbrev pub members_after : List Line → List Line → List Poly
members_after before [] = []
members_after before (l ∷ ls) =
    cond (is_stair l) (members_after (before ++ l ∷ []) ls) (polynomial before l ∷ members_after (before ++ l ∷ []) ls)

-- the polynomials of all relations
abbrev pub members : List Line → List Poly
members row = members_after [] row

-- the row: ascending lines that stand, whose stairs are the delta set, and whose relations are a reduced Groebner basis
pub record Row (U : SetUp) (row : List Line) : Type 0 where
  pub ascends : (i j : ℕ) → i < j → j < length row → Before U.order (monomial_of (line row i)) (monomial_of (line row j))
  pub stands : AllStand U.subject U.field row
  pub stairs : (j : ℕ) → j < length (stairs_of row) → InDeltaSet U (monomial_of (line (stairs_of row) j))
  pub all_stairs : (a : Mono) → InDeltaSet U a →
      (j : ℕ) × (j < length (stairs_of row)) × (monomial_of (line (stairs_of row) j) ≡ a)
  pub basis : Reduced U (members row)

-- exactly one row
pub record OneRow (U : SetUp) : Type 0 where
  pub row : List Line
  pub is_row : Row U row
  pub only : (other : List Line) → Row U other → other ≡ row
