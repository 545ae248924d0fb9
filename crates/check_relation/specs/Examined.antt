-- What the program answers of a claim: the field is refused, the subject is refused, or the polynomial is checked.
use Rattle.std.specs.Prelude.{ℕ, List, Err, Result}
use Rattle.faults.specs.declared.arithmetic.ArithmeticFault.TheVariants.{Unlisted}
use Rattle.faults.specs.declared.subject.SubjectFault.{SubjectFault}
use Rattle.faults.specs.declared.subject.SubjectFault.TheVariants.{Arithmetic}
use Rattle.faults.specs.declared.worksheet.WorksheetFault.{WorksheetFault}
use Rattle.faults.specs.declared.worksheet.WorksheetFault.TheVariants.{Subject}
use Rattle.fields.specs.Arithmetic.{Arithmetic as Meaning}
use Rattle.polynomials.specs.declared.term.Term.{Term}
use Rattle.polynomials.specs.Arrays.{array_meaning}
use Rattle.polynomials.specs.Points.{points_meaning}
use Rattle.polynomials.specs.Subjects.{SubjectMeaning}
use Rattle.subjects.specs.declared.checking.Finding.{Finding}
use Rattle.subjects.specs.ArrayGrounds.{ArrayAdmitted, ArrayRefused}
use Rattle.subjects.specs.PointGrounds.{PointsAdmitted, PointsRefused}
use Rattle.subjects.specs.Checks.{Checked}

-- what is answered
abbrev pub Answer : Type 0
Answer = Result Finding WorksheetFault

-- the subject is refused, or else admitted, and then the polynomial is checked against it
pub data SubjectExamined (Refused : SubjectFault → Type 0) (Admitted : Type 0) (S : SubjectMeaning) (A : Meaning) (ts : List Term) : Answer → Type 0 where
  refused : {fault : SubjectFault} → Refused fault → SubjectExamined Refused Admitted S A ts (Err (Subject fault))
  checked : {r : Answer} → Admitted → Checked S A ts r → SubjectExamined Refused Admitted S A ts r

-- the same of a pattern
abbrev pub PatternExamined : Meaning → List ℕ → List ℕ → List Term → Answer → Type 0
PatternExamined A ns cells ts = SubjectExamined (ArrayRefused A.order ns cells) (ArrayAdmitted A.order ns cells) (array_meaning ns cells) A ts

-- and of points
abbrev pub PointsExamined : Meaning → ℕ → ℕ → List ℕ → List Term → Answer → Type 0
PointsExamined A m count cs ts = SubjectExamined (PointsRefused A.order m count cs) (PointsAdmitted A.order m count cs) (points_meaning m count cs) A ts

-- the modulus or degree is not listed, or else the rest is examined
pub data Examined (Listed : Type 0) (Rest : Answer → Type 0) : Answer → Type 0 where
  unlisted : (Listed → ⊥) → Examined Listed Rest (Err (Subject (Arithmetic Unlisted)))
  listed : {r : Answer} → Listed → Rest r → Examined Listed Rest r
