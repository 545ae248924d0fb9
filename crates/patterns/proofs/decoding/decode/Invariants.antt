-- The records so far say what the entries are.
use Rattle.std.proofs.Common.{◌≡◌, ℕ, ◌<◌, length}
use Rattle.records.specs.Format.{Says}
use Rattle.patterns.specs.Files.{record_at, entry}
use Rattle.patterns.proofs.decoding.decode.Given as goal

abbrev pub invariant-loop-number : goal.invariant-loop-number
invariant-loop-number l = record {
  counted : length l.entries.items ≡ l.number;
  said : (j : ℕ) → j < l.number → Says (record_at l.fn.bytes j) (entry l.entries.items j);
}
