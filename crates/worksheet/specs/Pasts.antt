-- A past: calls with their answers, each tied to the sheets before and after by the relation that is its contract.
use Rattle.std.specs.Prelude.{◌≡◌, ℕ, ◌+◌, ◌<◌, Bool, List, [], ◌∷◌, Ok, Err, Result, Some, None, Option}
use Rattle.faults.specs.declared.worksheet.WorksheetFault.{WorksheetFault}
use Rattle.fields.specs.Arithmetic.{Arithmetic}
use Rattle.monomials.specs.Monomials.{Mono}
use Rattle.polynomials.specs.declared.term.Term.{Term}
use Rattle.polynomials.specs.Subjects.{SubjectMeaning}
use Rattle.rows.specs.declared.line.Line.{Line}
use Rattle.rows.specs.Ideals.{SetUp}
use Rattle.monomials.specs.declared.monomial.Monomial.{Monomial}
use Rattle.rows.specs.declared.verdict.Verdict.{Verdict}
use Rattle.worksheet.specs.declared.answers.Ran.{Ran}
use Rattle.worksheet.specs.Sheets.{Sheet}
use Rattle.worksheet.specs.Steps.{Steps, Runs}
use Rattle.worksheet.specs.Questions.{Reads, Leaves, Refills, Scores}

-- a call: its arguments, its answer, and what was lent, before and after
pub data Call : Type 0 where
  step : SetUp → Result (Option (Monomial × Verdict)) WorksheetFault → Call
  run : SetUp → Result Ran WorksheetFault → Call
  read : ℕ → Line → Result Bool WorksheetFault → Line → Call
  remainder : SubjectMeaning → Arithmetic → List Term → List ℕ → Result (Unit {0}) WorksheetFault → List ℕ → Call
  refill : Arithmetic → List ℕ → Mono → Result ℕ WorksheetFault → Call
  score : List ℕ → Result ℕ WorksheetFault → Call

-- the call takes the sheet before to the sheet after
abbrev pub Happens : Call → Sheet → Sheet → Type 0
Happens (step U answer) s after = Steps U s answer after
Happens (run U answer) s after = Runs U s answer after
Happens (read number place answer place_after) s after = Reads number s place answer place_after × (after ≡ s)
Happens (remainder S A terms codes answer codes_after) s after = Leaves S A terms s codes answer codes_after × (after ≡ s)
Happens (refill A codes a answer) s after = Refills A codes a s answer × (after ≡ s)
Happens (score periods answer) s after = Scores periods s answer × (after ≡ s)

-- one call after another
abbrev pub Past : List Call → Sheet → Sheet → Type 0
Past [] s after = after ≡ s
Past (c ∷ cs) s after = (between : Sheet) × Happens c s between × Past cs between after

-- how many monomials a call judged: a judging step one, a run the number that it answers
abbrev pub judged_by : Call → ℕ
judged_by (step U (Ok (Some judgement))) = 1
judged_by (step U (Ok None)) = 0
judged_by (step U (Err fault)) = 0
judged_by (run U (Ok ran)) = ran.judged
judged_by (run U (Err fault)) = 0
judged_by (read number place answer after) = 0
judged_by (remainder S A terms codes answer after) = 0
judged_by (refill A codes a answer) = 0
judged_by (score periods answer) = 0

-- how many all of them judged
abbrev pub judged_in : List Call → ℕ
judged_in [] = 0
judged_in (c ∷ cs) = judged_by c + judged_in cs

-- a step or a run had the set-up; the other calls judge nothing
abbrev pub Had : SetUp → Call → Type 0
Had U (step V answer) = V ≡ U
Had U (run V answer) = V ≡ U
Had U (read number place answer after) = ⊥
Had U (remainder S A terms codes answer after) = ⊥
Had U (refill A codes a answer) = ⊥
Had U (score periods answer) = ⊥

-- kept to the set-up: every call that judged a monomial had it
abbrev pub KeptTo : SetUp → List Call → Type 0
KeptTo U [] = Unit {0}
KeptTo U (c ∷ cs) = (0 < judged_by c → Had U c) × KeptTo U cs
