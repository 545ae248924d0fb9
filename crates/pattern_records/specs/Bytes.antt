-- The bytes of entries.
use Rattle.std.specs.Prelude.{◌≡◌, ℕ, List, [], ◌∷◌, ◌++◌, length}
use Rattle.records.specs.declared.entry.Entry.{Entry}
use Rattle.records.specs.Layout.{record_of}
use Rattle.records.specs.Format.{Says}

-- 12 bytes that say an entry
pub record RecordSays (bytes : List ℕ) (e : Entry) : Type 0 where
  pub twelve : length bytes ≡ 12
  pub says : Says (record_of bytes) e

-- a record that says an entry follows the bytes
abbrev pub Appended : List ℕ → Entry → List ℕ → Type 0
Appended before e after = (written : List ℕ) × RecordSays written e × (after ≡ before ++ written)

-- one record after another, each saying an entry
abbrev pub Holds : List ℕ → List Entry → Type 0
Holds bytes [] = bytes ≡ []
Holds bytes (e ∷ es) = (first : List ℕ) × (rest : List ℕ) × (bytes ≡ first ++ rest) × RecordSays first e × Holds rest es
