-- The field, the order and the periods that records mean, and when these are refused.
use Rattle.std.specs.Prelude.{◌≡◌, ℕ, ◌<◌, ◌≤◌, List, Ok, Err, Result}
use Rattle.faults.specs.Places.{FirstAt}
use Rattle.faults.specs.declared.arithmetic.ArithmeticFault.TheVariants.{Unlisted, Weight}
use Rattle.faults.specs.declared.subject.SubjectFault.TheVariants.{Variables, Period, Points, Count, Code, Arithmetic}
use Rattle.faults.specs.declared.file.FileFault.{FileFault}
use Rattle.faults.specs.declared.file.FileFault.TheVariants.{Length, Content, Single, Cell, Subject}
use Rattle.faults.specs.declared.file.RecordFault.{RecordFault}
use Rattle.fields.specs.Arithmetic.{Arithmetic as Meaning}
use Rattle.fields.specs.Residues.{residues, Listed as ModulusListed}
use Rattle.fields.specs.Binaries.{binary, Listed as DegreeListed}
use Rattle.monomials.specs.Orders.{Order}
use Rattle.monomials.specs.Rules.{lexicographic, graded, weighted}
use Rattle.monomials.specs.Weights.{Admitted, FirstAbove}
use Rattle.polynomials.specs.Arrays.{cells_of}
use Rattle.subjects.specs.ArrayGrounds.{PeriodsAdmitted, PeriodFault}
use Rattle.records.specs.declared.entry.FieldRecord.{FieldRecord}
use Rattle.records.specs.declared.entry.FieldRecord.TheVariants.{Modulus, Degree}
use Rattle.records.specs.declared.entry.OrderRecord.{OrderRecord}
use Rattle.records.specs.declared.entry.OrderRecord.TheVariants as orders
use Rattle.records.specs.Periods.{periods_of}
use Rattle.patterns.specs.declared.singles.Singles.{Singles}
use Rattle.patterns.specs.declared.plan.FieldKind.{FieldKind}
use Rattle.patterns.specs.declared.plan.FieldKind.TheVariants.{Residues, Binary}
use Rattle.patterns.specs.declared.plan.OrderKind.{OrderKind}
use Rattle.patterns.specs.declared.plan.OrderKind.TheVariants as kinds
use Rattle.patterns.specs.declared.plan.Plan.{Plan}

-- the field that a record means
abbrev pub field_meant : FieldRecord → Meaning
field_meant (Modulus modulus) = residues modulus
field_meant (Degree degree) = binary degree

-- the modulus or the degree is listed
abbrev pub FieldListed : FieldRecord → Type 0
FieldListed (Modulus modulus) = ModulusListed modulus
FieldListed (Degree degree) = DegreeListed degree

-- the field of a plan
abbrev pub field_of : FieldKind → Meaning
field_of (Residues field) = residues field.modulus
field_of (Binary field) = binary field.degree

-- the order that a record means
abbrev pub order_meant : OrderRecord → Order
order_meant orders.Lexicographic = lexicographic
order_meant orders.Graded = graded
order_meant (orders.Weighted weights) = weighted weights lexicographic

-- no weight is above 255
abbrev pub WeightsAdmitted : OrderRecord → Type 0
WeightsAdmitted orders.Lexicographic = Unit {0}
WeightsAdmitted orders.Graded = Unit {0}
WeightsAdmitted (orders.Weighted weights) = Admitted weights

-- the first weight above 255 stands at a place
abbrev pub WeightFault : OrderRecord → ℕ → Type 0
WeightFault orders.Lexicographic k = ⊥
WeightFault orders.Graded k = ⊥
WeightFault (orders.Weighted weights) k = FirstAbove weights k

-- the order of a plan
abbrev pub order_of : OrderKind → Order
order_of kinds.Lexicographic = lexicographic
order_of kinds.Graded = graded
order_of (kinds.Weighted weights) = weighted weights.weights lexicographic

-- the field and the order are admitted
pub record Admits (s : Singles) : Type 0 where
  pub field : FieldListed s.«field».value
  pub order : WeightsAdmitted s.order.value

-- the periods are admitted, and the width is the number of their cells, 1 to 64
pub record WidthOf (ns : List ℕ) (width : ℕ) : Type 0 where
  pub admitted : PeriodsAdmitted ns
  pub cells : width ≡ cells_of ns
  pub some : 0 < width
  pub few : width ≤ 64

-- the plan is what the records mean, and none of them is at fault
pub record Planned (s : Singles) (plan : Plan) : Type 0 where
  pub admits : Admits s
  pub width : WidthOf (periods_of s.period.value) plan.width
  pub field : field_of plan.«field» ≡ field_meant s.«field».value
  pub order : order_of plan.order ≡ order_meant s.order.value
  pub periods : plan.periods ≡ s.period.value

-- refused by the modulus or degree, then by a weight, then by a period; each at its record
abbrev pub Unplanned : Singles → ℕ → FileFault → Type 0
Unplanned s place Length = ⊥
Unplanned s place Content = ⊥
Unplanned s place Single = ⊥
Unplanned s place Cell = ⊥
Unplanned s place (Subject Variables) = ⊥
Unplanned s place (Subject (Period axis)) = Admits s × FirstAt (PeriodFault (periods_of s.period.value)) axis × (place ≡ s.period.place)
Unplanned s place (Subject Points) = ⊥
Unplanned s place (Subject Count) = ⊥
Unplanned s place (Subject (Code cell)) = ⊥
Unplanned s place (Subject (Arithmetic Unlisted)) = (FieldListed s.«field».value → ⊥) × (place ≡ s.«field».place)
Unplanned s place (Subject (Arithmetic (Weight k))) = FieldListed s.«field».value × WeightFault s.order.value k × (place ≡ s.order.place)

abbrev pub Plans : Singles → Result Plan RecordFault → Type 0
Plans s (Ok plan) = Planned s plan
Plans s (Err fault) = Unplanned s fault.record fault.fault
