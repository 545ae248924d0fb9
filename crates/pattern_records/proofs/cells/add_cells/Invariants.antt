-- The cells that are left, after the entries so far, make up the whole; and the next position is a number of 64 bits.
use Rattle.std.proofs.Common.{◌≡◌, ◌+◌, ◌^◌, ◌<◌, ◌++◌, drop, vec_items}
use Rattle.records.specs.Periods.{periods_of}
use Rattle.pattern_records.specs.Cells.{cell_entries}
use Rattle.pattern_records.proofs.cells.add_cells.Given as goal

abbrev pub invariant-loop-i : goal.invariant-loop-i
invariant-loop-i l = record {
  whole : vec_items l.entries ++ cell_entries (periods_of l.periods) (l.first + l.i) (drop l.i l.codes) ≡ vec_items l.initial.entries ++ cell_entries (periods_of l.periods) l.first l.codes;
  fits : l.first + l.i < 2 ^ 64;
}
