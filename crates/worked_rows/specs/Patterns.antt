-- Worked patterns: small set-ups, with the monomials of their rows in ascending order, which of them are stairs, and the
-- relations as polynomials.
use Rattle.std.specs.Prelude.{◌≡◌, ℕ, ◌*◌, ◌/◌, ◌%◌, ◌<◌, List, [], ◌∷◌, map, length, slice_index, slice_index_or}
use Rattle.fields.specs.Arithmetic.{Arithmetic}
use Rattle.fields.specs.Residues.{residues}
use Rattle.fields.specs.Binaries.{binary}
use Rattle.monomials.specs.Monomials.{Mono, one, times, variable}
use Rattle.monomials.specs.Orders.{Order}
use Rattle.monomials.specs.Rules.{lexicographic, graded}
use Rattle.polynomials.specs.Polynomials.{Summand, Poly, coefficient}
use Rattle.polynomials.specs.Points.{points_meaning}
use Rattle.rows.specs.declared.line.Line.{Line}
use Rattle.rows.specs.Ideals.{SetUp, array_set_up, Lawful, InIdeal}
use Rattle.rows.specs.Lines.{monomial_of, stairs_of}
use Rattle.rows.specs.Rows.{Row, members}
use Rattle.rows.specs.Continuation.{InfiniteArray, Continues}
use Rattle.rows.specs.Remainders.{minus}

-- the first variable
abbrev pub u : Mono
u = variable 0

-- the second variable
abbrev pub v : Mono
v = variable 1

-- a power of the first variable
abbrev pub power_of_u : ℕ → Mono
power_of_u n = record { e0 = n; e1 = 0; e2 = 0; e3 = 0 }

-- a code times a monomial
abbrev pub term : ℕ → Mono → Summand
term c a = record { at = a; code = c }

-- the lists have the same polynomials at the same places, by their coefficients
pub record SameInTurn (A : Arithmetic) (G H : List Poly) : Type 0 where
  pub as_many : length G ≡ length H
  pub equal : (i : ℕ) → i < length G → (a : Mono) → coefficient A (slice_index_or G i []) a ≡ coefficient A (slice_index_or H i []) a

-- the row of a lawful set-up: the monomials of its lines, of its stairs, and its relations
pub record Worked (U : SetUp) (judged stairs : List Mono) (relations : List Poly) : Type 0 where
  pub lawful : Lawful U
  pub row : List Line
  pub is_row : Row U row
  pub judged_are : map monomial_of row ≡ judged
  pub stairs_are : map monomial_of (stairs_of row) ≡ stairs
  pub relations_are : SameInTurn U.field (members row) relations

-- 1,000 times the stairs, divided by the positions, rounded down
abbrev pub score : SetUp → List Mono → ℕ
score U stairs = 1000 * length stairs / U.subject.width

-- ten cells
abbrev pub ten_cells : List ℕ
ten_cells = 3 ∷ 5 ∷ 9 ∷ 6 ∷ 0 ∷ 10 ∷ 8 ∷ 4 ∷ 7 ∷ 2 ∷ []

-- the sequence with these cells, by the modulus 11
abbrev pub sequence : SetUp
sequence = array_set_up (10 ∷ []) ten_cells (residues 11) graded

-- a square of two by two by the modulus 2: 1 at (0, 0) and at (1, 1)
abbrev pub square : Order → SetUp
square O = array_set_up (2 ∷ 2 ∷ []) (1 ∷ 0 ∷ 0 ∷ 1 ∷ []) (residues 2) O

-- three cells of 0 by the modulus 5
abbrev pub zeros : SetUp
zeros = array_set_up (3 ∷ []) (0 ∷ 0 ∷ 0 ∷ []) (residues 5) graded

-- one cell of 4 by the modulus 5
abbrev pub constant : SetUp
constant = array_set_up (1 ∷ []) (4 ∷ []) (residues 5) graded

-- three cells in the field of four codes
abbrev pub powers : SetUp
powers = array_set_up (3 ∷ []) (1 ∷ 2 ∷ 3 ∷ []) (binary 2) graded

-- the points (0, 0), (1, 0) and (0, 1) by the modulus 5
abbrev pub corners : SetUp
corners = record { subject = points_meaning 2 3 (0 ∷ 0 ∷ 1 ∷ 0 ∷ 0 ∷ 1 ∷ []); field = residues 5; order = graded }

-- the worked patterns
pub record WorkedPatterns : Type 0 where
  -- u² + 8u + 2
  pub sequence_row : Worked sequence (one ∷ u ∷ times u u ∷ []) (one ∷ u ∷ [])
      ((term 1 (times u u) ∷ term 8 u ∷ term 2 one ∷ []) ∷ [])
  pub sequence_score : score sequence (one ∷ u ∷ []) ≡ 200
  -- there u² leaves the remainder 3u + 9, and the codes 0 and 1 on the staircase continue to 3 at u²
  pub sequence_remainder : InIdeal sequence (minus (residues 11) (term 1 (times u u) ∷ []) (term 3 u ∷ term 9 one ∷ []))
  pub sequence_continues : (row : List Line) → Row sequence row → (f : InfiniteArray) → Continues sequence row (0 ∷ 1 ∷ []) f → f (times u u) ≡ 3
  -- and its own cells there, 3 and 5, continue to all its cells
  pub sequence_cells : (row : List Line) → Row sequence row → (f : InfiniteArray) → Continues sequence row (3 ∷ 5 ∷ []) f →
      (n : ℕ) → f (power_of_u n) ≡ slice_index ten_cells (n % 10)
  -- u + v, then v² + 1
  pub square_graded : Worked (square graded) (one ∷ v ∷ u ∷ times v v ∷ []) (one ∷ v ∷ [])
      ((term 1 u ∷ term 1 v ∷ []) ∷ (term 1 (times v v) ∷ term 1 one ∷ []) ∷ [])
  -- v² + 1, then u + v
  pub square_lexicographic : Worked (square lexicographic) (one ∷ v ∷ times v v ∷ u ∷ []) (one ∷ v ∷ [])
      ((term 1 (times v v) ∷ term 1 one ∷ []) ∷ (term 1 u ∷ term 1 v ∷ []) ∷ [])
  pub square_score : score (square graded) (one ∷ v ∷ []) ≡ 500
  -- 1
  pub zeros_row : Worked zeros (one ∷ []) [] ((term 1 one ∷ []) ∷ [])
  -- u + 4
  pub constant_row : Worked constant (one ∷ u ∷ []) (one ∷ []) ((term 1 u ∷ term 4 one ∷ []) ∷ [])
  -- u + 2
  pub powers_row : Worked powers (one ∷ u ∷ []) (one ∷ []) ((term 1 u ∷ term 2 one ∷ []) ∷ [])
  pub powers_score : score powers (one ∷ []) ≡ 333
  -- v² + 4v, uv, u² + 4u
  pub corners_row : Worked corners (one ∷ v ∷ u ∷ times v v ∷ times u v ∷ times u u ∷ []) (one ∷ v ∷ u ∷ [])
      ((term 1 (times v v) ∷ term 4 v ∷ []) ∷ (term 1 (times u v) ∷ []) ∷ (term 1 (times u u) ∷ term 4 u ∷ []) ∷ [])
