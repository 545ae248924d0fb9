-- What is proved of every lawful set-up.
use Rattle.std.specs.Prelude.{◌≡◌, ℕ, ◌<◌, ◌≤◌, ◌⊎◌, ◌↔◌, List, length, take, slice_index}
use Rattle.fields.specs.Arithmetic.{Arithmetic, FieldLaws}
use Rattle.monomials.specs.Monomials.{Mono, Within}
use Rattle.monomials.specs.Orders.{Order}
use Rattle.polynomials.specs.Polynomials.{Poly, InVariables}
use Rattle.polynomials.specs.Arrays.{cells_of, infinite_array}
use Rattle.polynomials.specs.Subjects.{SubjectMeaning, SubjectLaws}
use Rattle.rows.specs.declared.line.Line.{Line}
use Rattle.rows.specs.Ideals.{SetUp, array_set_up, Lawful, Reduced, SamePolynomials}
use Rattle.rows.specs.Lines.{monomial_of, line, stairs_of, AllStand, OneLine}
use Rattle.rows.specs.Sheets.{Next, Finished, Kept}
use Rattle.rows.specs.Rows.{Row, OneRow}
use Rattle.rows.specs.Continuation.{InfiniteArray, seen_from, OwnCodes, Continues, OneContinuation}
use Rattle.rows.specs.Remainders.{OneRemainder}

-- there is exactly one row
abbrev pub RowIsOne : Type 0
RowIsOne = (U : SetUp) → Lawful U → OneRow U

-- any two reduced Groebner bases of the ideal list the same polynomials
abbrev pub BasisIsOne : Type 0
BasisIsOne = (U : SetUp) → Lawful U → (G H : List Poly) → Reduced U G → Reduced U H → SamePolynomials U.field G H

-- after lines that stand, exactly one line stands for each monomial
abbrev pub LineIsOne : Type 0
LineIsOne = (S : SubjectMeaning) → SubjectLaws S → (A : Arithmetic) → FieldLaws A →
    (before : List Line) → AllStand S A before → (a : Mono) → OneLine S A before a

-- kept lines are the first of the row
abbrev pub KeptAreFirst : Type 0
KeptAreFirst = (U : SetUp) → Lawful U → (lines row : List Line) → Kept U lines → Row U row →
    (length lines ≤ length row) × (lines ≡ take (length lines) row)

-- lines are the row exactly where they are kept and finished
abbrev pub FinishedAreAll : Type 0
FinishedAreAll = (U : SetUp) → Lawful U → (lines : List Line) →
    (Kept U lines × Finished U.subject.variables lines) ↔ Row U lines

-- kept lines that are not finished have a next monomial, which stands next in the row
abbrev pub NextIsNext : Type 0
NextIsNext = (U : SetUp) → Lawful U → (lines row : List Line) → Kept U lines → (Finished U.subject.variables lines → ⊥) →
    Row U row → (a : Mono) × Next U.subject.variables U.order lines a ×
    (length lines < length row) × (monomial_of (line row (length lines)) ≡ a)

-- the lines alone, without the order, decide whether they are finished
abbrev pub FinishedIsDecided : Type 0
FinishedIsDecided = (variables : ℕ) (lines : List Line) → Finished variables lines ⊎ (Finished variables lines → ⊥)

-- each choice of codes on the staircase is continued by exactly one infinite array that obeys every relation at every offset
abbrev pub CodesContinue : Type 0
CodesContinue = (U : SetUp) → Lawful U → (row : List Line) → Row U row → (codes : List ℕ) →
    ((j : ℕ) → j < length (stairs_of row) → slice_index codes j < U.field.order) → OneContinuation U row codes

-- what a subject has at a position, on the staircase, is continued to all that it has there
abbrev pub PositionsContinue : Type 0
PositionsContinue = (U : SetUp) → Lawful U → (row : List Line) → Row U row → (k : ℕ) → k < U.subject.width → (codes : List ℕ) →
    OwnCodes row (seen_from U k) codes → Continues U row codes (seen_from U k) ×
    ((f : InfiniteArray) → Continues U row codes f → (a : Mono) → Within U.subject.variables a → f a ≡ seen_from U k a)

-- an array's own cells on the staircase are continued to all its cells
abbrev pub CellsContinue : Type 0
CellsContinue = (periods cells : List ℕ) (A : Arithmetic) (O : Order) → 0 < cells_of periods → Lawful (array_set_up periods cells A O) →
    (row : List Line) → Row (array_set_up periods cells A O) row → (codes : List ℕ) → OwnCodes row (infinite_array periods cells A) codes →
    (f : InfiniteArray) → Continues (array_set_up periods cells A O) row codes f →
    (a : Mono) → Within (length periods) a → f a ≡ infinite_array periods cells A a

-- each polynomial differs by a member of the ideal from exactly one combination of stairs
abbrev pub RemainderIsOne : Type 0
RemainderIsOne = (U : SetUp) → Lawful U → (row : List Line) → Row U row →
    (p : Poly) → InVariables U.subject.variables p → OneRemainder U row p
