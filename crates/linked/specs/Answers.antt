-- What is answered of a finished sheet.
use Rattle.std.specs.Prelude.{◌≡◌, ℕ, ◌+◌, ◌*◌, ◌/◌, ◌<◌, ◌≤◌, min, ◌⊎◌, List, length, Ok, Err, Result, slice_index}
use Rattle.faults.specs.declared.worksheet.WorksheetFault.{WorksheetFault}
use Rattle.fields.specs.Arithmetic.{Arithmetic}
use Rattle.monomials.specs.Monomials.{mono}
use Rattle.polynomials.specs.declared.term.Term.{Term}
use Rattle.polynomials.specs.Subjects.{SubjectMeaning}
use Rattle.rows.specs.declared.line.Line.{Line}
use Rattle.worksheet.specs.Sheets.{Sheet, judged}
use Rattle.worksheet.specs.Questions.{Leaves, Refills, RemainderRefused, stairs_in}
use Rattle.linked.specs.Numbers.{LinesAt, SameFrom, four, TermsAt}

-- all lines are written where there is room for them, and else none
pub record Lists (lines : List Line) (before : List ℕ) (r : ℕ) (after : List ℕ) : Type 0 where
  pub written : 69 * length lines ≤ length before → (r ≡ length lines) × LinesAt after (length lines) lines
  pub no_room : length before < 69 * length lines → (r ≡ 0) × (after ≡ before)
  pub rest : SameFrom (69 * r) before after

-- the code of the array that continues the codes, at monomial i
abbrev pub Refilled : Arithmetic → List ℕ → List ℕ → Sheet → ℕ → ℕ → Type 0
Refilled A codes asked s i code = Refills A codes (mono (four asked (4 * i))) s (Ok code)

-- one of the first n refills is refused
abbrev pub RefillRefused : Arithmetic → List ℕ → List ℕ → Sheet → ℕ → Type 0
RefillRefused A codes asked s n = (i : ℕ) × (fault : WorksheetFault) × (i < n) × Refills A codes (mono (four asked (4 * i))) s (Err fault)

-- the code at each monomial is written; or none counts, for want of room or since one is refused
pub record ContinuesEach (A : Arithmetic) (codes asked : List ℕ) (s : Sheet) (before : List ℕ) (r : ℕ) (after : List ℕ) : Type 0 where
  pub whole : (r ≡ length asked / 4) ⊎ ((r ≡ 0) × ((length before < length asked / 4) ⊎ RefillRefused A codes asked s (length asked / 4)))
  pub each : (i : ℕ) → i < r → Refilled A codes asked s i (slice_index after i)
  pub rest : SameFrom (length asked / 4) before after

-- the remainder of the terms stands from a place on, one code for each stair; or it is refused
abbrev pub RemainderAt : SubjectMeaning → Arithmetic → List Term → Sheet → ℕ → ℕ → Result (Unit {0}) WorksheetFault → List ℕ → Type 0
RemainderAt S A ts s stairs at r out = (lent : List ℕ) × (codes : List ℕ) × (length lent ≡ stairs) × (length codes ≡ stairs) × Leaves S A ts s lent r codes ×
    ((k : ℕ) → k < stairs → slice_index out (at + k) ≡ slice_index codes k)

-- the remainder of polynomial i stands at 64 times i
pub record Remaindered (S : SubjectMeaning) (A : Arithmetic) (asked : List ℕ) (s : Sheet) (out : List ℕ) (i : ℕ) : Type 0 where
  pub terms : List Term
  pub of_numbers : TermsAt asked (320 * i) terms
  pub remains : RemainderAt S A terms s (min (stairs_in s) 64) (64 * i) (Ok tt) out

-- one of the first n remainders is refused
pub record SomeRefused (S : SubjectMeaning) (A : Arithmetic) (asked : List ℕ) (s : Sheet) (n : ℕ) : Type 0 where
  pub at : ℕ
  pub within : at < n
  pub terms : List Term
  pub of_numbers : TermsAt asked (320 * at) terms
  pub fault : WorksheetFault
  pub refused : RemainderRefused S A terms s (min (stairs_in s) 64) fault

-- the remainder of each polynomial is written; or none counts, for want of room or since one is refused
pub record LeavesEach (S : SubjectMeaning) (A : Arithmetic) (asked : List ℕ) (s : Sheet) (before : List ℕ) (r : ℕ) (after : List ℕ) : Type 0 where
  pub whole : (r ≡ length asked / 320) ⊎ ((r ≡ 0) × ((length before / 64 < length asked / 320) ⊎ SomeRefused S A asked s (length asked / 320)))
  pub each : (i : ℕ) → i < r → Remaindered S A asked s after i
  pub rest : SameFrom (64 * (length asked / 320)) before after
