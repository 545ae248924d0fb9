-- What a reading, a remainder, a refill and a score answer of a sheet. They leave the sheet as it is.
use Rattle.std.specs.Prelude.{◌≡◌, ℕ, ◌*◌, ◌/◌, ◌<◌, ◌≤◌, Bool, List, length, Ok, Err, Decides, Result, ◌≢◌}
use Rattle.faults.specs.Places.{FirstAt, NoneAt}
use Rattle.faults.specs.declared.worksheet.WorksheetFault.{WorksheetFault}
use Rattle.faults.specs.declared.worksheet.WorksheetFault.TheVariants.{Code, OtherSetUp, Unfinished, NoLineLeft, LineNumber, Exponent, Length, Subject}
use Rattle.fields.specs.Arithmetic.{Arithmetic}
use Rattle.fields.specs.Codes.{CodeFault}
use Rattle.monomials.specs.Monomials.{Mono}
use Rattle.monomials.specs.Orders.{Order}
use Rattle.polynomials.specs.declared.term.Term.{Term}
use Rattle.polynomials.specs.Arrays.{cells_of}
use Rattle.polynomials.specs.Subjects.{SubjectMeaning}
use Rattle.polynomials.specs.Terms.{poly, Admitted, TermCodeFault, ExponentFault, TermsAdmitted}
use Rattle.rows.specs.declared.line.Line.{Line}
use Rattle.rows.specs.Ideals.{SetUp, Lawful}
use Rattle.rows.specs.Lines.{line, stairs_of}
use Rattle.rows.specs.Sheets.{Kept}
use Rattle.rows.specs.Continuation.{InfiniteArray, Continues}
use Rattle.rows.specs.Remainders.{Remains}
use Rattle.worksheet.specs.Sheets.{Sheet, judged, Done, set_up, Fits, FitsField}
use Rattle.worksheet.specs.Freedoms.{FreeCodes, FreeCode}

-- how many stairs are judged
abbrev pub stairs_in : Sheet → ℕ
stairs_in s = length (stairs_of (judged s))

-- a reading copies the line of the number to the lent place, and says whether the sheet is finished; it is refused where no such line is judged
abbrev pub Reads : ℕ → Sheet → Line → Result Bool WorksheetFault → Line → Type 0
Reads number s place (Ok finished) after = (number < s.used) × (after ≡ line (judged s) number) × Decides finished (Done s)
Reads number s place (Err LineNumber) after = (s.used ≤ number) × (after ≡ place)
Reads number s place (Err (Code i)) after = ⊥
Reads number s place (Err OtherSetUp) after = ⊥
Reads number s place (Err Unfinished) after = ⊥
Reads number s place (Err NoLineLeft) after = ⊥
Reads number s place (Err (Exponent i)) after = ⊥
Reads number s place (Err Length) after = ⊥
Reads number s place (Err (Subject fault)) after = ⊥

-- no ground stands against the remainder of these terms, written to so many codes
pub record RemainderAdmitted (S : SubjectMeaning) (A : Arithmetic) (ts : List Term) (s : Sheet) (room : ℕ) : Type 0 where
  pub terms : TermsAdmitted S.variables A.order ts
  pub fits : Fits S A s
  pub done : Done s
  pub one_each : room ≡ stairs_in s

-- the first ground against it: a term's code, other numbers, an unfinished sheet, a term's exponents, the number of lent codes
abbrev pub RemainderRefused : SubjectMeaning → Arithmetic → List Term → Sheet → ℕ → WorksheetFault → Type 0
RemainderRefused S A ts s room (Code i) = FirstAt (TermCodeFault A.order ts) i
RemainderRefused S A ts s room OtherSetUp = NoneAt (TermCodeFault A.order ts) × (Fits S A s → ⊥)
RemainderRefused S A ts s room Unfinished = NoneAt (TermCodeFault A.order ts) × Fits S A s × (Done s → ⊥)
RemainderRefused S A ts s room (Exponent i) = NoneAt (TermCodeFault A.order ts) × Fits S A s × Done s × FirstAt (ExponentFault S.variables ts) i
RemainderRefused S A ts s room Length = TermsAdmitted S.variables A.order ts × Fits S A s × Done s × (room ≢ stairs_in s)
RemainderRefused S A ts s room NoLineLeft = ⊥
RemainderRefused S A ts s room LineNumber = ⊥
RemainderRefused S A ts s room (Subject fault) = ⊥

-- under each order to whose set-up the sheet was kept, the codes are those of the polynomial's remainder
abbrev pub RemainsWhereKept : SubjectMeaning → Arithmetic → List Term → Sheet → List ℕ → Type 0
RemainsWhereKept S A ts s codes = (O : Order) → Lawful (set_up S A O) → Kept (set_up S A O) (judged s) → Remains (set_up S A O) (judged s) (poly ts) codes

-- a remainder is written to the lent codes; refused, they are as they were
abbrev pub Leaves : SubjectMeaning → Arithmetic → List Term → Sheet → List ℕ → Result (Unit {0}) WorksheetFault → List ℕ → Type 0
Leaves S A ts s codes (Ok _) after = RemainderAdmitted S A ts s (length codes) × FreeCodes s after × RemainsWhereKept S A ts s after
Leaves S A ts s codes (Err fault) after = RemainderRefused S A ts s (length codes) fault × (after ≡ codes)

-- no ground stands against the refill of these codes at the monomial
pub record RefillAdmitted (A : Arithmetic) (codes : List ℕ) (a : Mono) (s : Sheet) : Type 0 where
  pub below : NoneAt (CodeFault A.order codes)
  pub fits : FitsField A s
  pub done : Done s
  pub exponents : Admitted s.variables a
  pub one_each : length codes ≡ stairs_in s

-- the first ground against it: a code, another number of codes of the field, an unfinished sheet, the exponents, the number of codes lent
abbrev pub RefillRefused : Arithmetic → List ℕ → Mono → Sheet → WorksheetFault → Type 0
RefillRefused A codes a s (Code i) = FirstAt (CodeFault A.order codes) i
RefillRefused A codes a s OtherSetUp = NoneAt (CodeFault A.order codes) × (FitsField A s → ⊥)
RefillRefused A codes a s Unfinished = NoneAt (CodeFault A.order codes) × FitsField A s × (Done s → ⊥)
RefillRefused A codes a s (Exponent i) = NoneAt (CodeFault A.order codes) × FitsField A s × Done s × (Admitted s.variables a → ⊥) × (i ≡ 0)
RefillRefused A codes a s Length = NoneAt (CodeFault A.order codes) × FitsField A s × Done s × Admitted s.variables a × (length codes ≢ stairs_in s)
RefillRefused A codes a s NoLineLeft = ⊥
RefillRefused A codes a s LineNumber = ⊥
RefillRefused A codes a s (Subject fault) = ⊥

-- under each set-up with this field to which the sheet was kept, the code is that of whatever array continues the codes
abbrev pub ContinuesWhereKept : Arithmetic → List ℕ → Mono → Sheet → ℕ → Type 0
ContinuesWhereKept A codes a s code = (U : SetUp) → Lawful U → U.field ≡ A → U.subject.variables ≡ s.variables → Kept U (judged s) →
    (f : InfiniteArray) → Continues U (judged s) codes f → code ≡ f a

-- a refill answers one code
abbrev pub Refills : Arithmetic → List ℕ → Mono → Sheet → Result ℕ WorksheetFault → Type 0
Refills A codes a s (Ok code) = RefillAdmitted A codes a s × FreeCode s code × ContinuesWhereKept A codes a s code
Refills A codes a s (Err fault) = RefillRefused A codes a s fault

-- the array has the sheet's numbers of variables and positions
pub record FitsArray (periods : List ℕ) (s : Sheet) : Type 0 where
  pub variables : length periods ≡ s.variables
  pub cells : cells_of periods ≡ s.width

-- a score is 1,000 times the stairs by the cells of the period, rounded down; it is refused by other numbers, then on an unfinished sheet
abbrev pub Scores : List ℕ → Sheet → Result ℕ WorksheetFault → Type 0
Scores periods s (Ok score) = FitsArray periods s × Done s × (score ≡ 1000 * stairs_in s / cells_of periods)
Scores periods s (Err OtherSetUp) = FitsArray periods s → ⊥
Scores periods s (Err Unfinished) = FitsArray periods s × (Done s → ⊥)
Scores periods s (Err (Code i)) = ⊥
Scores periods s (Err NoLineLeft) = ⊥
Scores periods s (Err LineNumber) = ⊥
Scores periods s (Err (Exponent i)) = ⊥
Scores periods s (Err Length) = ⊥
Scores periods s (Err (Subject fault)) = ⊥
