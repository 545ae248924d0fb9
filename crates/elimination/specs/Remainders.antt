-- The remainder of a polynomial, as finished lines give it.
use Rattle.std.specs.Prelude.{◌≡◌, ℕ, List, length}
use Rattle.fields.specs.Arithmetic.{Arithmetic}
use Rattle.polynomials.specs.Polynomials.{Poly, InVariables}
use Rattle.polynomials.specs.Subjects.{SubjectMeaning}
use Rattle.rows.specs.declared.line.Line.{Line}
use Rattle.rows.specs.Ideals.{SetUp, Lawful}
use Rattle.rows.specs.Lines.{stairs_of}
use Rattle.rows.specs.Remainders.{Remains}
use Rattle.rows.specs.Sheets.{Finished, Kept}

-- on finished lines that are kept to a set-up of the subject and the field, codes as many as the stairs are those of the remainder
abbrev pub RemainderOf : SubjectMeaning → Arithmetic → List Line → Poly → List ℕ → Type 0
RemainderOf S A lines p codes = (U : SetUp) → U.subject ≡ S → U.field ≡ A → Lawful U → Kept U lines → Finished S.variables lines →
    InVariables S.variables p → length codes ≡ length (stairs_of lines) → Remains U lines p codes
