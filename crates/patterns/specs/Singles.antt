-- The records that come once: one field, one order, one period.
use Rattle.std.specs.Prelude.{◌≡◌, ℕ, ◌<◌, ◌⊎◌, List, length, Ok, Err, Result}
use Rattle.faults.specs.declared.file.FileFault.TheVariants.{Single}
use Rattle.faults.specs.declared.file.RecordFault.{RecordFault}
use Rattle.faults.specs.Places.{Faulty, NoneAt, FirstAt}
use Rattle.records.specs.declared.entry.Entry.{Entry}
use Rattle.records.specs.declared.entry.Entry.TheVariants.{Field, Order, Period}
use Rattle.records.specs.declared.kind.Kind.{Kind}
use Rattle.records.specs.declared.kind.Kind.TheVariants as kinds
use Rattle.records.specs.Kinds.{kind_of}
use Rattle.patterns.specs.declared.singles.Singles.{Singles}
use Rattle.patterns.specs.Files.{blank, entry}

-- the record at a place is of the kind
abbrev pub OfKind : List Entry → Kind → ℕ → Type 0
OfKind es kind = Faulty blank (λ e. kind_of e ≡ kind) es

-- the kind is not that of cells, and a record before the place is of it
pub record ComesAgain (es : List Entry) (kind : Kind) (i : ℕ) : Type 0 where
  pub single : kind ≡ kinds.Cell → ⊥
  pub before : (j : ℕ) × (j < i) × OfKind es kind j

-- the record at a place is not the first of its kind, and no cell
abbrev pub Repeats : List Entry → ℕ → Type 0
Repeats es i = (i < length es) × ComesAgain es (kind_of (entry es i)) i

-- the record at a place is this entry
abbrev pub StandsAt : List Entry → ℕ → Entry → Type 0
StandsAt es i e = (i < length es) × (entry es i ≡ e)

-- a field, an order or a period is missing
abbrev pub Missing : List Entry → Type 0
Missing es = NoneAt (OfKind es kinds.Field) ⊎ NoneAt (OfKind es kinds.Order) ⊎ NoneAt (OfKind es kinds.Period)

-- the one field, order and period record, where none of them repeats
pub record Singled (es : List Entry) (s : Singles) : Type 0 where
  pub once : NoneAt (Repeats es)
  pub field : StandsAt es s.«field».place (Field s.«field».value)
  pub order : StandsAt es s.order.place (Order s.order.value)
  pub period : StandsAt es s.period.place (Period s.period.value)

-- refused at the first record that is the second of its kind, or else, where one is missing, at the number of records
abbrev pub SingleFault : List Entry → ℕ → Type 0
SingleFault es place = FirstAt (Repeats es) place ⊎ (NoneAt (Repeats es) × Missing es × (place ≡ length es))

-- the records that come once, or the refusal
abbrev pub SingleOut : List Entry → Result Singles RecordFault → Type 0
SingleOut es (Ok s) = Singled es s
SingleOut es (Err fault) = (fault.fault ≡ Single) × SingleFault es fault.record
