-- A file of records: whole records of 12 bytes, at most 67, and the entry that each says.
use Rattle.std.specs.Prelude.{◌≡◌, ℕ, ◌*◌, ◌/◌, ◌%◌, ◌<◌, ◌≤◌, List, length, take, drop, slice_index_or}
use Rattle.records.specs.declared.record.Record.{Record}
use Rattle.records.specs.declared.entry.OrderRecord.TheVariants.{Lexicographic}
use Rattle.records.specs.declared.entry.Entry.{Entry}
use Rattle.records.specs.declared.entry.Entry.TheVariants.{Order}
use Rattle.records.specs.Layout.{record_of}
use Rattle.records.specs.Format.{Says}

-- how many whole records there are
abbrev pub records_in : List ℕ → ℕ
records_in bytes = length bytes / 12

-- whole records, at most 67
pub record Whole (bytes : List ℕ) : Type 0 where
  pub whole : length bytes % 12 ≡ 0
  pub few : records_in bytes ≤ 67

-- the record of a number, counted from 0
abbrev pub record_at : List ℕ → ℕ → Record
record_at bytes i = record_of (take 12 (drop (12 * i) bytes))

-- the record of a number says nothing: its kind or subkind is not listed, or a number that it does not use is not 0
abbrev pub ContentFault : List ℕ → ℕ → Type 0
ContentFault bytes i = (i < records_in bytes) × ((e : Entry) → Says (record_at bytes i) e → ⊥)

-- what stands past the end of a list of entries
abbrev pub blank : Entry
blank = Order Lexicographic

-- the entry of a number
abbrev pub entry : List Entry → ℕ → Entry
entry es i = slice_index_or es i blank

-- the file says these entries, record by record
pub record FileSays (bytes : List ℕ) (es : List Entry) : Type 0 where
  pub whole : Whole bytes
  pub count : length es ≡ records_in bytes
  pub each : (i : ℕ) → i < length es → Says (record_at bytes i) (entry es i)
