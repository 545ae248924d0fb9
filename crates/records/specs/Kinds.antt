-- The kinds of entries.
use Rattle.records.specs.declared.entry.Entry.{Entry}
use Rattle.records.specs.declared.entry.Entry.TheVariants.{Field, Order, Period, Cell}
use Rattle.records.specs.declared.kind.Kind.{Kind}
use Rattle.records.specs.declared.kind.Kind.TheVariants as kinds

-- the kind of an entry
abbrev pub kind_of : Entry → Kind
kind_of (Field field) = kinds.Field
kind_of (Order order) = kinds.Order
kind_of (Period period) = kinds.Period
kind_of (Cell cell) = kinds.Cell
