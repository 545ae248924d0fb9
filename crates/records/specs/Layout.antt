-- How a record lies in bytes: the kind, the subkind, and five numbers of 16 bits, low byte first.
use Rattle.std.specs.Prelude.{ℕ, ◌+◌, ◌*◌, List, [], ◌∷◌, slice_index}
use Rattle.records.specs.declared.record.Record.{Record}

-- the number that begins at a place, low byte first
abbrev pub number_at : List ℕ → ℕ → ℕ
number_at bytes place = slice_index bytes place + 256 * slice_index bytes (place + 1)

-- the record that bytes begin with
abbrev pub record_of : List ℕ → Record
record_of bytes = record {
  kind = slice_index bytes 0;
  subkind = slice_index bytes 1;
  numbers = number_at bytes 2 ∷ number_at bytes 4 ∷ number_at bytes 6 ∷ number_at bytes 8 ∷ number_at bytes 10 ∷ [];
}
