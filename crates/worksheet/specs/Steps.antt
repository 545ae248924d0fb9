-- What opening, a step and a run do: the sheet before, the answer, the sheet after.
use Rattle.std.specs.Prelude.{◌≡◌, ℕ, zero, suc, ◌+◌, ◌<◌, List, length, Ok, Err, Result, slice_set, Some, None, Option}
use Rattle.faults.specs.declared.worksheet.WorksheetFault.{WorksheetFault}
use Rattle.faults.specs.declared.worksheet.WorksheetFault.TheVariants.{Code, OtherSetUp, Unfinished, NoLineLeft, LineNumber, Exponent, Length, Subject}
use Rattle.fields.specs.Arithmetic.{Arithmetic}
use Rattle.monomials.specs.Monomials.{Mono, mono}
use Rattle.monomials.specs.declared.monomial.Monomial.{Monomial}
use Rattle.polynomials.specs.Subjects.{SubjectMeaning}
use Rattle.rows.specs.declared.line.Line.{Line}
use Rattle.rows.specs.declared.verdict.Verdict.{Verdict}
use Rattle.rows.specs.Ideals.{SetUp}
use Rattle.rows.specs.Lines.{Stands, AllStand}
use Rattle.rows.specs.Sheets.{Next}
use Rattle.worksheet.specs.declared.answers.Ran.{Ran}
use Rattle.worksheet.specs.declared.answers.Ending.{Ending}
use Rattle.worksheet.specs.declared.answers.Ending.TheVariants as endings
use Rattle.worksheet.specs.Sheets.{Sheet, judged, Done, Fits}
use Rattle.worksheet.specs.Freedoms.{FreeLine}

-- opening notes the numbers of the set-up, uses no line and writes none
abbrev pub opened : SubjectMeaning → Arithmetic → List Line → Sheet
opened S A lent = record { variables = S.variables; width = S.width; order = A.order; used = 0; lines = lent }

-- the sheet with a line put down at the first unused place, which is then used
abbrev pub put_down : Sheet → Line → Sheet
put_down s l = record {
  variables = s.variables;
  width = s.width;
  order = s.order;
  used = s.used + 1;
  lines = slice_set s.lines s.used l;
}

-- the first unused line is written, and no other; it stands where the lines before it do
pub record Writes (S : SubjectMeaning) (A : Arithmetic) (s : Sheet) (l : Line) (after : Sheet) : Type 0 where
  pub unused : s.used < length s.lines
  pub free : FreeLine s l
  pub stands : AllStand S A (judged s) → Stands S A (judged s) l
  pub put : after ≡ put_down s l

-- the line written has this monomial and this verdict
pub record WritesVerdict (S : SubjectMeaning) (A : Arithmetic) (s : Sheet) (monomial : Monomial) (verdict : Verdict) (after : Sheet) : Type 0 where
  pub line : Line
  pub of_monomial : line.monomial ≡ monomial
  pub with_verdict : line.verdict ≡ verdict
  pub writes : Writes S A s line after

-- the next monomial is judged to be this
pub record Judges (U : SetUp) (s : Sheet) (monomial : Monomial) (verdict : Verdict) (after : Sheet) : Type 0 where
  pub next : Next s.variables U.order (judged s) (mono monomial.exponents)
  pub written : WritesVerdict U.subject U.field s monomial verdict after

-- some monomial is next
abbrev pub SomeNext : SetUp → Sheet → Type 0
SomeNext U s = (a : Mono) × Next s.variables U.order (judged s) a

-- a step judges, or finds the sheet finished and answers nothing; it is refused by other numbers, then for want of a line
abbrev pub Steps : SetUp → Sheet → Result (Option (Monomial × Verdict)) WorksheetFault → Sheet → Type 0
Steps U s (Ok (Some (monomial, verdict))) after = Fits U.subject U.field s × Judges U s monomial verdict after
Steps U s (Ok None) after = Fits U.subject U.field s × Done s × (after ≡ s)
Steps U s (Err OtherSetUp) after = (Fits U.subject U.field s → ⊥) × (after ≡ s)
Steps U s (Err NoLineLeft) after = Fits U.subject U.field s × SomeNext U s × (s.used ≡ length s.lines) × (after ≡ s)
Steps U s (Err (Code place)) after = ⊥
Steps U s (Err Unfinished) after = ⊥
Steps U s (Err LineNumber) after = ⊥
Steps U s (Err (Exponent place)) after = ⊥
Steps U s (Err Length) after = ⊥
Steps U s (Err (Subject fault)) after = ⊥

-- so many monomials are judged, one after another
abbrev pub JudgesMany : SetUp → ℕ → Sheet → Sheet → Type 0
JudgesMany U zero s after = after ≡ s
JudgesMany U (suc n) s after = (between : Sheet) × JudgesMany U n s between × ((monomial : Monomial) × (verdict : Verdict) × Judges U between monomial verdict after)

-- why a run ended
abbrev pub Ends : SetUp → Ending → Sheet → Type 0
Ends U endings.Finished s = Done s
Ends U endings.Full s = SomeNext U s × (s.used ≡ length s.lines)

-- a run judges until the sheet is finished or no unused line is left; it is refused by other numbers
abbrev pub Runs : SetUp → Sheet → Result Ran WorksheetFault → Sheet → Type 0
Runs U s (Ok ran) after = Fits U.subject U.field s × JudgesMany U ran.judged s after × Ends U ran.ending after
Runs U s (Err OtherSetUp) after = (Fits U.subject U.field s → ⊥) × (after ≡ s)
Runs U s (Err NoLineLeft) after = ⊥
Runs U s (Err (Code place)) after = ⊥
Runs U s (Err Unfinished) after = ⊥
Runs U s (Err LineNumber) after = ⊥
Runs U s (Err (Exponent place)) after = ⊥
Runs U s (Err Length) after = ⊥
Runs U s (Err (Subject fault)) after = ⊥
