-- What a record says, by its kind and subkind. A number that a record does not use is 0.
use Rattle.std.specs.Prelude.{◌≡◌, ℕ, List, slice_index, slice_index_or}
use Rattle.records.specs.declared.record.Record.{Record}
use Rattle.records.specs.declared.entry.FieldRecord.{FieldRecord}
use Rattle.records.specs.declared.entry.FieldRecord.TheVariants.{Modulus, Degree}
use Rattle.records.specs.declared.entry.OrderRecord.{OrderRecord}
use Rattle.records.specs.declared.entry.OrderRecord.TheVariants.{Lexicographic, Graded, Weighted}
use Rattle.records.specs.declared.entry.CellRecord.{CellRecord}
use Rattle.records.specs.declared.entry.Entry.{Entry}
use Rattle.records.specs.declared.entry.Entry.TheVariants.{Field, Order, Period, Cell}
use Rattle.records.specs.declared.period.PeriodRecord.{PeriodRecord}
use Rattle.records.specs.declared.period.PeriodRecord.TheVariants.{One, Two, Three, Four}

-- the five numbers of a record
pub record NumbersAre (ns : List ℕ) (n0 n1 n2 n3 n4 : ℕ) : Type 0 where
  pub first : slice_index_or ns 0 0 ≡ n0
  pub second : slice_index_or ns 1 0 ≡ n1
  pub third : slice_index_or ns 2 0 ≡ n2
  pub fourth : slice_index_or ns 3 0 ≡ n3
  pub fifth : slice_index_or ns 4 0 ≡ n4

-- a field: subkind 0 with the modulus first, subkind 1 with the degree first
abbrev pub SaysField : ℕ → List ℕ → FieldRecord → Type 0
SaysField subkind ns (Modulus modulus) = (subkind ≡ 0) × NumbersAre ns modulus 0 0 0 0
SaysField subkind ns (Degree degree) = (subkind ≡ 1) × NumbersAre ns degree 0 0 0 0

-- an order: subkind 0 lexicographic, 1 graded, 2 weighted over lexicographic with the weights as the first four numbers
abbrev pub SaysOrder : ℕ → List ℕ → OrderRecord → Type 0
SaysOrder subkind ns Lexicographic = (subkind ≡ 0) × NumbersAre ns 0 0 0 0 0
SaysOrder subkind ns Graded = (subkind ≡ 1) × NumbersAre ns 0 0 0 0 0
SaysOrder subkind ns (Weighted ws) = (subkind ≡ 2) × NumbersAre ns (slice_index ws 0) (slice_index ws 1) (slice_index ws 2) (slice_index ws 3) 0

-- a period: the subkind is how many there are, 1 to 4, and so many periods follow
abbrev pub SaysPeriod : ℕ → List ℕ → PeriodRecord → Type 0
SaysPeriod subkind ns (One ps) = (subkind ≡ 1) × NumbersAre ns (slice_index ps 0) 0 0 0 0
SaysPeriod subkind ns (Two ps) = (subkind ≡ 2) × NumbersAre ns (slice_index ps 0) (slice_index ps 1) 0 0 0
SaysPeriod subkind ns (Three ps) = (subkind ≡ 3) × NumbersAre ns (slice_index ps 0) (slice_index ps 1) (slice_index ps 2) 0 0
SaysPeriod subkind ns (Four ps) = (subkind ≡ 4) × NumbersAre ns (slice_index ps 0) (slice_index ps 1) (slice_index ps 2) (slice_index ps 3) 0

-- a cell: subkind 0, four coordinates, the code
abbrev pub SaysCell : ℕ → List ℕ → CellRecord → Type 0
SaysCell subkind ns c =
    (subkind ≡ 0) × NumbersAre ns (slice_index c.coordinates.exponents 0) (slice_index c.coordinates.exponents 1) (slice_index c.coordinates.exponents 2) (slice_index c.coordinates.exponents 3) c.code

-- kind 1 is a field, 2 an order, 3 a period, 4 a cell
abbrev pub Says : Record → Entry → Type 0
Says r (Field f) = (r.kind ≡ 1) × SaysField r.subkind r.numbers f
Says r (Order o) = (r.kind ≡ 2) × SaysOrder r.subkind r.numbers o
Says r (Period p) = (r.kind ≡ 3) × SaysPeriod r.subkind r.numbers p
Says r (Cell c) = (r.kind ≡ 4) × SaysCell r.subkind r.numbers c
