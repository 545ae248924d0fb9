-- A pattern worked out: opened, run to the end, and asked.
use Rattle.std.specs.Prelude.{◌≡◌, ℕ, ◌<◌, List, length, Ok}
use Rattle.faults.specs.declared.subject.SubjectFault.{SubjectFault}
use Rattle.fields.specs.Arithmetic.{Arithmetic}
use Rattle.fields.specs.Residues.{residues, Listed as ModulusListed}
use Rattle.fields.specs.Binaries.{binary, Listed as DegreeListed}
use Rattle.monomials.specs.Orders.{Order}
use Rattle.monomials.specs.Rules.{lexicographic, graded}
use Rattle.polynomials.specs.Arrays.{array_meaning}
use Rattle.subjects.specs.ArrayGrounds.{ArrayAdmitted, ArrayRefused}
use Rattle.rows.specs.declared.line.Line.{Line}
use Rattle.rows.specs.Ideals.{array_set_up}
use Rattle.worksheet.specs.declared.answers.Ran.{Ran}
use Rattle.worksheet.specs.declared.answers.Ending.{Ending}
use Rattle.worksheet.specs.declared.answers.Ending.TheVariants as endings
use Rattle.worksheet.specs.Sheets.{Sheet}
use Rattle.worksheet.specs.Steps.{opened, Runs}
use Rattle.polynomials.specs.Subjects.{SubjectMeaning}

-- what is asked of a finished sheet: the numbers before, how many answers there are, the numbers after
abbrev pub Asked : Type 1
Asked = SubjectMeaning → Arithmetic → Sheet → List ℕ → ℕ → List ℕ → Type 0

-- nothing is written, and 0 is answered
abbrev pub Nothing : List ℕ → ℕ → List ℕ → Type 0
Nothing before r after = (r ≡ 0) × (after ≡ before)

-- a sheet of 193 lines was opened under the pattern and run, and ended so
pub record RanTo (A : Arithmetic) (O : Order) (ns cells : List ℕ) (ending : Ending) (s : Sheet) : Type 0 where
  pub admitted : ArrayAdmitted A.order ns cells
  pub lent : List Line
  pub all : length lent ≡ 193
  pub ran : Ran
  pub runs : Runs (array_set_up ns cells A O) (opened (array_meaning ns cells) A lent) (Ok ran) s
  pub ended : ran.ending ≡ ending

-- under a field and an order: the finished sheet is asked; a sheet that is full, and refused periods or cells, give nothing
pub data Works (A : Arithmetic) (O : Order) (ns cells : List ℕ) (Ask : Asked) (before : List ℕ) (r : ℕ) (after : List ℕ) : Type 0 where
  answered : (s : Sheet) → RanTo A O ns cells endings.Finished s → Ask (array_meaning ns cells) A s before r after → Works A O ns cells Ask before r after
  full : (s : Sheet) → RanTo A O ns cells endings.Full s → Nothing before r after → Works A O ns cells Ask before r after
  refused : (fault : SubjectFault) → ArrayRefused A.order ns cells fault → Nothing before r after → Works A O ns cells Ask before r after

-- under the order of a number: 0 the lexicographic, 1 the graded, none of the others
pub record Orders (A : Arithmetic) (order : ℕ) (ns cells : List ℕ) (Ask : Asked) (before : List ℕ) (r : ℕ) (after : List ℕ) : Type 0 where
  pub by_lexicographic : order ≡ 0 → Works A lexicographic ns cells Ask before r after
  pub by_graded : order ≡ 1 → Works A graded ns cells Ask before r after
  pub by_none : 1 < order → Nothing before r after

-- under a field that may not be listed: nothing where it is not
pub record Listed (IsListed : Type 0) (A : Arithmetic) (order : ℕ) (ns cells : List ℕ) (Ask : Asked) (before : List ℕ) (r : ℕ) (after : List ℕ) : Type 0 where
  pub by_number : IsListed → Orders A order ns cells Ask before r after
  pub no_number : (IsListed → ⊥) → Nothing before r after

-- under the field of a kind and a size: 0 the residues by a listed modulus, 1 the binary field of a listed degree, none of the others
pub record Fields (kind size order : ℕ) (ns cells : List ℕ) (Ask : Asked) (before : List ℕ) (r : ℕ) (after : List ℕ) : Type 0 where
  pub by_modulus : kind ≡ 0 → Listed (ModulusListed size) (residues size) order ns cells Ask before r after
  pub by_degree : kind ≡ 1 → Listed (DegreeListed size) (binary size) order ns cells Ask before r after
  pub by_none : 1 < kind → Nothing before r after
