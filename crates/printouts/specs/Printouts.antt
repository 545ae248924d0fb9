-- What is printed for a file of records.
use Rattle.std.specs.Prelude.{ℕ, ◌*◌, ◌/◌, ◌<◌, ◌≤◌, List, length}
use Rattle.faults.specs.Grounds.{of_record, of_worksheet}
use Rattle.faults.specs.declared.file.RecordFault.{RecordFault}
use Rattle.faults.specs.declared.worksheet.WorksheetFault.TheVariants.{NoLineLeft}
use Rattle.fields.specs.Arithmetic.{Arithmetic}
use Rattle.monomials.specs.Orders.{Order}
use Rattle.polynomials.specs.Arrays.{cells_of}
use Rattle.rows.specs.declared.line.Line.{Line}
use Rattle.rows.specs.Ideals.{SetUp, array_set_up}
use Rattle.rows.specs.Lines.{stairs_of}
use Rattle.rows.specs.Rows.{Row}
use Rattle.listings.specs.Listings.{listing_text, refusal_line}
use Rattle.patterns.specs.Reads.{Pattern, FileMeans, Refused}

-- how many lines are lent
abbrev pub lent_lines : ℕ
lent_lines = 193

-- the pattern of a field, an order, periods and cells
abbrev pub pattern : Arithmetic → Order → List ℕ → List ℕ → Pattern
pattern A O periods cells = record { field = A; order = O; periods = periods; cells = cells }

-- the set-up of a pattern
abbrev pub set_up_of : Pattern → SetUp
set_up_of p = array_set_up p.periods p.cells p.field p.order

-- the row of a pattern is listed, with the score: 1,000 times the stairs by the cells of the period, rounded down
abbrev pub row_text : Pattern → List Line → List ℕ
row_text p row = listing_text (length row) (length p.periods) row (1000 * length (stairs_of row) / cells_of p.periods)

-- the row of the pattern's set-up is listed; where it has more lines than are lent, the refusal for want of a line is printed
pub data ListsRow (p : Pattern) : List ℕ → Type 0 where
  listed : (row : List Line) → Row (set_up_of p) row → length row ≤ lent_lines → ListsRow p (row_text p row)
  full : (row : List Line) → Row (set_up_of p) row → lent_lines < length row → ListsRow p (refusal_line (of_worksheet NoLineLeft))

-- a file that is refused is answered by the line of its refusal, and one that means a pattern by the pattern's row
pub data Prints (bytes : List ℕ) : List ℕ → Type 0 where
  refused : (fault : RecordFault) → Refused bytes fault.«record» fault.fault → Prints bytes (refusal_line (of_record fault))
  taken : (p : Pattern) → FileMeans bytes p → (text : List ℕ) → ListsRow p text → Prints bytes text
