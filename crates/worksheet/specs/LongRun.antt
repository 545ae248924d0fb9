-- What holds of a worksheet after opening and any list of calls.
use Rattle.std.specs.Prelude.{◌≡◌, ℕ, ◌+◌, ◌*◌, ◌<◌, ◌≤◌, Bool, true, ◌↔◌, List, length, take, drop, Ok, Err, Result, slice_index, None, Option}
use Rattle.faults.specs.declared.worksheet.WorksheetFault.{WorksheetFault}
use Rattle.fields.specs.Arithmetic.{Arithmetic}
use Rattle.monomials.specs.Monomials.{Mono}
use Rattle.polynomials.specs.declared.term.Term.{Term}
use Rattle.polynomials.specs.Polynomials.{Poly}
use Rattle.polynomials.specs.Arrays.{array_meaning, cells_of, infinite_array, Valid}
use Rattle.polynomials.specs.Points.{points_meaning, Vanishes}
use Rattle.polynomials.specs.Terms.{poly, Admitted}
use Rattle.rows.specs.declared.line.Line.{Line}
use Rattle.rows.specs.Ideals.{SetUp, Lawful, InIdeal}
use Rattle.rows.specs.Lines.{stairs_of, relations_of, on_stairs}
use Rattle.rows.specs.Rows.{Row, OneRow}
use Rattle.rows.specs.Continuation.{InfiniteArray, OwnCodes, OneContinuation}
use Rattle.rows.specs.Remainders.{minus}
use Rattle.monomials.specs.declared.monomial.Monomial.{Monomial}
use Rattle.rows.specs.declared.verdict.Verdict.{Verdict}
use Rattle.worksheet.specs.declared.answers.Ran.{Ran}
use Rattle.worksheet.specs.declared.answers.Ending.TheVariants as endings
use Rattle.worksheet.specs.Sheets.{Sheet, judged}
use Rattle.worksheet.specs.Steps.{opened, Steps, Runs}
use Rattle.worksheet.specs.Questions.{Reads, Leaves, Refills}
use Rattle.worksheet.specs.Pasts.{Call, Past, judged_in, KeptTo}

-- none of the row is missing
abbrev pub NoneMissing : List Line → Sheet → Type 0
NoneMissing row s = s.used ≡ length row

-- LINES: the lines judged are the first of the row, as many as were judged; unused lines are as lent
pub record LinesHold (row lent : List Line) (past : List Call) (s : Sheet) : Type 0 where
  pub as_many : s.used ≡ judged_in past
  pub within : s.used ≤ length row
  pub first : judged s ≡ take s.used row
  pub unused : drop s.used s.lines ≡ drop s.used lent
  pub as_long : length s.lines ≡ length lent

-- ANSWERS: what the next reading, step or run says, and how many lines there are
pub record AnswersHold (U : SetUp) (row : List Line) (past : List Call) (s : Sheet) : Type 0 where
  -- a reading, unless refused, says finished exactly when none is missing
  pub reading : (number : ℕ) (place : Line) (says : Bool) (place_after : Line) → Reads number s place (Ok says) place_after →
      (says ≡ true) ↔ NoneMissing row s
  -- so does a step under the set-up
  pub step : (answer : Option (Monomial × Verdict)) (after : Sheet) → Steps U s (Ok answer) after → (answer ≡ None) ↔ NoneMissing row s
  -- which is refused only while one is missing and no line is unused
  pub step_refused : (fault : WorksheetFault) (after : Sheet) → Steps U s (Err fault) after → (s.used < length row) × (s.used ≡ length s.lines)
  -- a run under the set-up is not refused, and says finished exactly when none is missing after it
  pub run : (ran : Ran) (after : Sheet) → Runs U s (Ok ran) after → (ran.ending ≡ endings.Finished) ↔ NoneMissing row after
  pub run_refused : (fault : WorksheetFault) (after : Sheet) → Runs U s (Err fault) after → ⊥
  -- judged = stairs + relations, at most variables × stairs + 1
  pub counted : judged_in past ≡ length (stairs_of (judged s)) + length (relations_of (judged s))
  pub bounded : judged_in past ≤ U.subject.variables * length (stairs_of (judged s)) + 1

-- codes below the order, one for each stair
pub record CodesOnStairs (A : Arithmetic) (s : Sheet) (codes : List ℕ) : Type 0 where
  pub one_each : length codes ≡ length (stairs_of (judged s))
  pub below : (j : ℕ) → j < length codes → slice_index codes j < A.order

-- refilled from the codes, the sheet answers the array's code at each monomial with exponents up to 4,095
abbrev pub RefilledAs : Arithmetic → ℕ → Sheet → List ℕ → InfiniteArray → Type 0
RefilledAs A variables s codes f = (a : Mono) → Admitted variables a → (answer : Result ℕ WorksheetFault) → Refills A codes a s answer → answer ≡ Ok (f a)

-- CONTINUATION: the codes are continued by exactly one infinite array that obeys every relation at every offset, and refill answers it
pub record ContinuationHolds (U : SetUp) (s : Sheet) (codes : List ℕ) : Type 0 where
  pub one : OneContinuation U (judged s) codes
  pub refill : RefilledAs U.field U.subject.variables s codes one.array

-- the polynomial less the combination of the sheet's stairs by the codes
abbrev pub less_remainder : Arithmetic → List Term → Sheet → List ℕ → Poly
less_remainder A terms s codes = minus A (poly terms) (on_stairs (stairs_of (judged s)) codes)

-- each remainder under the subject and field differs from its polynomial by a polynomial of that kind
abbrev pub RemaindersDifferBy : (Poly → Type 0) → SetUp → Sheet → Type 0
RemaindersDifferBy Kind U s = (terms : List Term) (codes : List ℕ) (answer : Unit {0}) (after : List ℕ) →
    Leaves U.subject U.field terms s codes (Ok answer) after → Kind (less_remainder U.field terms s after)

-- FINISHED: the sheet lists exactly the delta set and the reduced basis; codes continue; a remainder differs by an annihilator
pub record FinishedHolds (U : SetUp) (s : Sheet) : Type 0 where
  pub lists : Row U (judged s)
  pub continuation : (codes : List ℕ) → CodesOnStairs U.field s codes → ContinuationHolds U s codes
  pub remainder : RemaindersDifferBy (InIdeal U) U s

-- of a periodic array: refilling its own cells on the staircase gives back all its cells; a remainder differs by a polynomial valid for it
pub record ArrayHolds (U : SetUp) (periods cells : List ℕ) (s : Sheet) : Type 0 where
  pub refill : (codes : List ℕ) → length codes ≡ length (stairs_of (judged s)) → OwnCodes (judged s) (infinite_array periods cells U.field) codes →
      RefilledAs U.field (length periods) s codes (infinite_array periods cells U.field)
  pub remainder : RemaindersDifferBy (Valid U.field (length periods) (infinite_array periods cells U.field)) U s

-- of a point set: a remainder differs by a polynomial that vanishes at every point
abbrev pub PointsHold : SetUp → ℕ → ℕ → List ℕ → Sheet → Type 0
PointsHold U m count coordinates s = RemaindersDifferBy (Vanishes U.field m count coordinates) U s

-- what has come about, over the one row of the set-up
pub record Outcome (U : SetUp) (lent : List Line) (past : List Call) (s : Sheet) : Type 0 where
  pub one_row : OneRow U
  pub lines : LinesHold one_row.row lent past s
  pub answers : AnswersHold U one_row.row past s
  pub finished : NoneMissing one_row.row s → FinishedHolds U s
  pub array : NoneMissing one_row.row s → (periods cells : List ℕ) → 0 < cells_of periods → U.subject ≡ array_meaning periods cells →
      ArrayHolds U periods cells s
  pub points : NoneMissing one_row.row s → (m count : ℕ) (coordinates : List ℕ) → U.subject ≡ points_meaning m count coordinates →
      PointsHold U m count coordinates s

-- THE LONG-RUN STATEMENT: for every lawful set-up, lent lines, and past that is opening under the set-up and any list of calls, kept to the set-up
abbrev pub LongRun : Sheet → Type 0
LongRun s = (U : SetUp) → Lawful U → (lent : List Line) (past : List Call) →
    Past past (opened U.subject U.field lent) s → KeptTo U past → Outcome U lent past s
