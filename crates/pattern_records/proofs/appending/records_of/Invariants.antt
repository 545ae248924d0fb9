-- The records of the entries before the place.
use Rattle.std.proofs.Common.{take, vec_items}
use Rattle.pattern_records.specs.Bytes.{Holds}
use Rattle.pattern_records.proofs.appending.records_of.Given as goal

abbrev pub invariant-loop-entry : goal.invariant-loop-entry
invariant-loop-entry l = Holds (vec_items l.bytes) (take l.entry-index l.entries)
