-- The worked patterns: their lines written out, and tested.
use Rattle.std.proofs.Common.{◌≡◌, ℕ, ◌-◌, Bool, true, ◌&&◌, List, [], ◌∷◌, ◌++◌, map, length, replicate, refl, arith}
use Rattle.std.proofs.lemmas.Bool.{and_parts}
use Rattle.fields.specs.Inverses as residues
use Rattle.fields.specs.PowersLemmas as binaries
use Rattle.monomials.specs.Monomials.{Mono, one, times}
use Rattle.monomials.specs.Orders.{Order, OrderLaws}
use Rattle.monomials.specs.Rules.{lexicographic, graded}
use Rattle.monomials.specs.RulesLemmas.{lexicographic_laws, graded_laws}
use Rattle.polynomials.specs.Polynomials.{Poly}
use Rattle.polynomials.proofs.Arrays.{array_laws}
use Rattle.polynomials.proofs.Points.{points_laws}
use Rattle.rows.specs.declared.line.Line.{Line}
use Rattle.rows.specs.declared.verdict.Verdict.{Verdict}
use Rattle.rows.specs.declared.verdict.Verdict.TheVariants.{Stair as stair, Relation as relation}
use Rattle.rows.specs.Ideals.{SetUp, Lawful}
use Rattle.rows.specs.Lines.{monomial_of, stairs_of}
use Rattle.rows.specs.Rows.{Row, members}
use Rattle.rows.proofs.Making.{made}
use Rattle.worked_rows.specs.Patterns.{u, v, term, Worked, ten_cells, sequence, square, zeros, constant, powers, corners}
use Rattle.worked_rows.proofs.Tests.{every, some}
use Rattle.worked_rows.proofs.Waits.{divides?, judged?, multiple?, settled?, every_product, finished?, product?, next?}
use Rattle.worked_rows.proofs.Stands.{past?, says?, stands?, kept?, tested_row}
use Rattle.worked_rows.proofs.Polynomials.{same_at?, same?, in_turn?, in_turn_sound}

-- a line, its codes filled up with 0
abbrev written : Mono → Verdict → List ℕ → List ℕ → ℕ → Line
written a w codes image pivot = made a (codes ++ replicate (64 - length codes) 0) (image ++ replicate (64 - length image) 0) w pivot

-- whether lines are the row, with the relations
unfoldable row? : SetUp → List Line → List Poly → Bool
row? U lines relations = kept? U lines && (finished? U.subject.variables lines && in_turn? U.field (members lines) relations)

-- they are
worked : (U : SetUp) → Lawful U → (lines : List Line) (judged stairs : List Mono) (relations : List Poly) → row? U lines relations ≡ true →
    map monomial_of lines ≡ judged → map monomial_of (stairs_of lines) ≡ stairs → Worked U judged stairs relations
unfolding row?
worked U K lines judged stairs relations h js ss =
    let (kept, rest) = and_parts (kept? U lines) (finished? U.subject.variables lines && in_turn? U.field (members lines) relations) h in
    let (finished, turn) = and_parts (finished? U.subject.variables lines) (in_turn? U.field (members lines) relations) rest in
    record {
      lawful = K;
      row = lines;
      is_row = tested_row U K lines kept finished;
      judged_are = js;
      stairs_are = ss;
      relations_are = in_turn_sound U.field K.field.ring (members lines) relations turn;
    }

-- the set-up of the sequence is lawful
pub sequence_lawful : Lawful sequence
sequence_lawful = record { subject = array_laws (10 ∷ []) ten_cells (omega arith) (omega arith) (omega arith); field = residues.field_laws 11 tt; order = graded_laws }

-- the lines of the sequence
abbrev pub sequence_lines : List Line
sequence_lines =
    written one stair [] ten_cells 0 ∷
    written u stair (2 ∷ []) (0 ∷ 8 ∷ 2 ∷ 1 ∷ 10 ∷ 6 ∷ 9 ∷ 4 ∷ 5 ∷ 7 ∷ []) 1 ∷
    written (times u u) relation (2 ∷ 8 ∷ []) [] 64 ∷ []

-- they are its row
pub sequence_row : Worked sequence (one ∷ u ∷ times u u ∷ []) (one ∷ u ∷ [])
    ((term 1 (times u u) ∷ term 8 u ∷ term 2 one ∷ []) ∷ [])
unfolding row? kept? finished? in_turn? same? same_at? next? stands? every some settled? judged? multiple? divides? every_product product? past? says?
sequence_row = worked sequence sequence_lawful sequence_lines _ _ _ refl refl refl

-- the lines themselves are the row
pub sequence_is : Row sequence sequence_lines
unfolding row? kept? finished? in_turn? same? same_at? next? stands? every some settled? judged? multiple? divides? every_product product? past? says?
sequence_is = tested_row sequence sequence_lawful sequence_lines refl refl

-- the square is lawful with a lawful order
square_lawful : (O : Order) → OrderLaws O → Lawful (square O)
square_lawful O L = record { subject = array_laws (2 ∷ 2 ∷ []) (1 ∷ 0 ∷ 0 ∷ 1 ∷ []) (omega arith) (omega arith) (omega arith); field = residues.field_laws 2 tt; order = L }

-- the lines of the square by the graded order
abbrev pub graded_lines : List Line
graded_lines =
    written one stair [] (1 ∷ 0 ∷ 0 ∷ 1 ∷ []) 0 ∷
    written v stair (0 ∷ []) (0 ∷ 1 ∷ 1 ∷ 0 ∷ []) 1 ∷
    written u relation (0 ∷ 1 ∷ []) [] 64 ∷
    written (times v v) relation (1 ∷ 0 ∷ []) [] 64 ∷ []

-- they are its row
pub square_graded : Worked (square graded) (one ∷ v ∷ u ∷ times v v ∷ []) (one ∷ v ∷ [])
    ((term 1 u ∷ term 1 v ∷ []) ∷ (term 1 (times v v) ∷ term 1 one ∷ []) ∷ [])
unfolding row? kept? finished? in_turn? same? same_at? next? stands? every some settled? judged? multiple? divides? every_product product? past? says?
square_graded = worked (square graded) (square_lawful graded graded_laws) graded_lines _ _ _ refl refl refl

-- the lines of the square by the lexicographic order
abbrev pub lexicographic_lines : List Line
lexicographic_lines =
    written one stair [] (1 ∷ 0 ∷ 0 ∷ 1 ∷ []) 0 ∷
    written v stair (0 ∷ []) (0 ∷ 1 ∷ 1 ∷ 0 ∷ []) 1 ∷
    written (times v v) relation (1 ∷ 0 ∷ []) [] 64 ∷
    written u relation (0 ∷ 1 ∷ []) [] 64 ∷ []

-- they are its row
pub square_lexicographic : Worked (square lexicographic) (one ∷ v ∷ times v v ∷ u ∷ []) (one ∷ v ∷ [])
    ((term 1 (times v v) ∷ term 1 one ∷ []) ∷ (term 1 u ∷ term 1 v ∷ []) ∷ [])
unfolding row? kept? finished? in_turn? same? same_at? next? stands? every some settled? judged? multiple? divides? every_product product? past? says?
square_lexicographic = worked (square lexicographic) (square_lawful lexicographic lexicographic_laws) lexicographic_lines _ _ _ refl refl refl

-- the set-up of the zeros is lawful
pub zeros_lawful : Lawful zeros
zeros_lawful = record { subject = array_laws (3 ∷ []) (0 ∷ 0 ∷ 0 ∷ []) (omega arith) (omega arith) (omega arith); field = residues.field_laws 5 tt; order = graded_laws }

-- the lines of the zeros
abbrev pub zeros_lines : List Line
zeros_lines =
    written one relation [] [] 64 ∷ []

-- they are its row
pub zeros_row : Worked zeros (one ∷ []) []
    ((term 1 one ∷ []) ∷ [])
unfolding row? kept? finished? in_turn? same? same_at? next? stands? every some settled? judged? multiple? divides? every_product product? past? says?
zeros_row = worked zeros zeros_lawful zeros_lines _ _ _ refl refl refl

-- the set-up of the constant is lawful
pub constant_lawful : Lawful constant
constant_lawful = record { subject = array_laws (1 ∷ []) (4 ∷ []) (omega arith) (omega arith) (omega arith); field = residues.field_laws 5 tt; order = graded_laws }

-- the lines of the constant
abbrev pub constant_lines : List Line
constant_lines =
    written one stair [] (4 ∷ []) 0 ∷
    written u relation (4 ∷ []) [] 64 ∷ []

-- they are its row
pub constant_row : Worked constant (one ∷ u ∷ []) (one ∷ [])
    ((term 1 u ∷ term 4 one ∷ []) ∷ [])
unfolding row? kept? finished? in_turn? same? same_at? next? stands? every some settled? judged? multiple? divides? every_product product? past? says?
constant_row = worked constant constant_lawful constant_lines _ _ _ refl refl refl

-- the set-up of the powers is lawful
pub powers_lawful : Lawful powers
powers_lawful = record { subject = array_laws (3 ∷ []) (1 ∷ 2 ∷ 3 ∷ []) (omega arith) (omega arith) (omega arith); field = binaries.field_laws 2 tt; order = graded_laws }

-- the lines of the powers
abbrev pub powers_lines : List Line
powers_lines =
    written one stair [] (1 ∷ 2 ∷ 3 ∷ []) 0 ∷
    written u relation (2 ∷ []) [] 64 ∷ []

-- they are its row
pub powers_row : Worked powers (one ∷ u ∷ []) (one ∷ [])
    ((term 1 u ∷ term 2 one ∷ []) ∷ [])
unfolding row? kept? finished? in_turn? same? same_at? next? stands? every some settled? judged? multiple? divides? every_product product? past? says?
powers_row = worked powers powers_lawful powers_lines _ _ _ refl refl refl

-- the set-up of the corners is lawful
pub corners_lawful : Lawful corners
corners_lawful = record { subject = points_laws 2 3 (0 ∷ 0 ∷ 1 ∷ 0 ∷ 0 ∷ 1 ∷ []) (omega arith) (omega arith) (omega arith); field = residues.field_laws 5 tt; order = graded_laws }

-- the lines of the corners
abbrev pub corners_lines : List Line
corners_lines =
    written one stair [] (1 ∷ 1 ∷ 1 ∷ []) 0 ∷
    written v stair (0 ∷ []) (0 ∷ 0 ∷ 1 ∷ []) 2 ∷
    written u stair (0 ∷ 0 ∷ []) (0 ∷ 1 ∷ 0 ∷ []) 1 ∷
    written (times v v) relation (0 ∷ 4 ∷ 0 ∷ []) [] 64 ∷
    written (times u v) relation (0 ∷ 0 ∷ 0 ∷ []) [] 64 ∷
    written (times u u) relation (0 ∷ 0 ∷ 4 ∷ []) [] 64 ∷ []

-- they are its row
pub corners_row : Worked corners (one ∷ v ∷ u ∷ times v v ∷ times u v ∷ times u u ∷ []) (one ∷ v ∷ u ∷ [])
    ((term 1 (times v v) ∷ term 4 v ∷ []) ∷ (term 1 (times u v) ∷ []) ∷ (term 1 (times u u) ∷ term 4 u ∷ []) ∷ [])
unfolding row? kept? finished? in_turn? same? same_at? next? stands? every some settled? judged? multiple? divides? every_product product? past? says?
corners_row = worked corners corners_lawful corners_lines _ _ _ refl refl refl
