-- A worksheet as a value: what opening noted, the lent lines, and how many of them are used.
use Rattle.std.specs.Prelude.{◌≡◌, ℕ, List, take}
use Rattle.fields.specs.Arithmetic.{Arithmetic}
use Rattle.monomials.specs.Orders.{Order}
use Rattle.polynomials.specs.Subjects.{SubjectMeaning}
use Rattle.rows.specs.declared.line.Line.{Line}
use Rattle.rows.specs.Ideals.{SetUp}
use Rattle.rows.specs.Sheets.{Finished}

pub record Sheet : Type 0 where
  pub variables : ℕ
  pub width : ℕ
  pub order : ℕ
  pub used : ℕ
  pub lines : List Line

-- the lines judged: those used
abbrev pub judged : Sheet → List Line
judged s = take s.used s.lines

-- the sheet is finished: nothing waits
abbrev pub Done : Sheet → Type 0
Done s = Finished s.variables (judged s)

-- the set-up of a subject, a field and an order
abbrev pub set_up : SubjectMeaning → Arithmetic → Order → SetUp
set_up S A O = record { subject = S; field = A; order = O }

-- the subject has the sheet's numbers of variables and positions
pub record FitsSubject (S : SubjectMeaning) (s : Sheet) : Type 0 where
  pub variables : S.variables ≡ s.variables
  pub width : S.width ≡ s.width

-- the field has the sheet's number of codes
abbrev pub FitsField : Arithmetic → Sheet → Type 0
FitsField A s = A.order ≡ s.order

-- the subject and the field have the sheet's numbers
pub record Fits (S : SubjectMeaning) (A : Arithmetic) (s : Sheet) : Type 0 where
  pub subject : FitsSubject S s
  pub field : FitsField A s
