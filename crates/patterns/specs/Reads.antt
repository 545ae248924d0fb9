-- Reading a file: the pattern that it means, or the first ground against it, with the record at fault.
use Rattle.std.specs.Prelude.{◌≡◌, ℕ, List, take, Ok, Err, Result}
use Rattle.faults.specs.declared.file.FileFault.{FileFault}
use Rattle.faults.specs.declared.file.FileFault.TheVariants.{Single}
use Rattle.faults.specs.declared.file.RecordFault.{RecordFault}
use Rattle.fields.specs.Arithmetic.{Arithmetic}
use Rattle.monomials.specs.Orders.{Order}
use Rattle.subjects.specs.ArrayGrounds.{PeriodsAdmitted}
use Rattle.records.specs.declared.entry.Entry.{Entry}
use Rattle.records.specs.Periods.{periods_of}
use Rattle.patterns.specs.declared.singles.Singles.{Singles}
use Rattle.patterns.specs.declared.plan.Plan.{Plan}
use Rattle.patterns.specs.Files.{FileSays}
use Rattle.patterns.specs.Decodings.{Undecoded}
use Rattle.patterns.specs.Singles.{Singled, SingleFault}
use Rattle.patterns.specs.Plans.{field_meant, order_meant, field_of, order_of, Admits, WidthOf, Unplanned}
use Rattle.patterns.specs.Cells.{ZeroAfter}
use Rattle.patterns.specs.Fillings.{Filled, Unfilled}

-- a pattern: its field, its order, its periods and its cells
pub record Pattern : Type 0 where
  pub field : Arithmetic
  pub order : Order
  pub periods : List ℕ
  pub cells : List ℕ

-- a file with its entries, and the field, order and period records among them, each of which comes once
pub record Sorted (bytes : List ℕ) (es : List Entry) (s : Singles) : Type 0 where
  pub says : FileSays bytes es
  pub singled : Singled es s

-- such a file whose field, order and periods are admitted
pub record LaidOut (bytes : List ℕ) (es : List Entry) (s : Singles) : Type 0 where
  pub sorted : Sorted bytes es s
  pub admits : Admits s
  pub periods : PeriodsAdmitted (periods_of s.period.value)

-- the file means the pattern
pub record FileMeans (bytes : List ℕ) (p : Pattern) : Type 0 where
  pub entries : List Entry
  pub singles : Singles
  pub laid_out : LaidOut bytes entries singles
  pub field : p.field ≡ field_meant singles.«field».value
  pub order : p.order ≡ order_meant singles.order.value
  pub periods : p.periods ≡ periods_of singles.period.value
  pub cells : Filled p.field.order p.periods entries p.cells

-- the first ground against a file, at a place: its length, or a record that says nothing; a record that comes twice or is missing;
-- the field, the order or the periods; the cell records, or a code
pub data Refused (bytes : List ℕ) (place : ℕ) (fault : FileFault) : Type 0 where
  undecoded : Undecoded bytes place fault → Refused bytes place fault
  unsorted : (es : List Entry) → FileSays bytes es → fault ≡ Single → SingleFault es place → Refused bytes place fault
  unplanned : (es : List Entry) (s : Singles) → Sorted bytes es s → Unplanned s place fault → Refused bytes place fault
  unfilled : (es : List Entry) (s : Singles) → LaidOut bytes es s → Unfilled (field_meant s.«field».value).order (periods_of s.period.value) es place fault →
      Refused bytes place fault

-- the pattern of a plan with lent codes, of which the first are its cells
abbrev pub pattern_of : Plan → List ℕ → Pattern
pattern_of plan lent = record {
  field = field_of plan.«field»;
  order = order_of plan.order;
  periods = periods_of plan.periods;
  cells = take plan.width lent;
}

-- the plan and the lent codes are those of the pattern that the file means, the codes after its cells 0; refused, the codes are as they were
abbrev pub Reads : List ℕ → List ℕ → Result Plan RecordFault → List ℕ → Type 0
Reads bytes lent (Ok plan) after =
    FileMeans bytes (pattern_of plan after) × WidthOf (periods_of plan.periods) plan.width × ZeroAfter plan.width after
Reads bytes lent (Err fault) after = Refused bytes fault.«record» fault.fault × (after ≡ lent)
