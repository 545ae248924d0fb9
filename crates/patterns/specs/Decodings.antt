-- What decoding a file answers.
use Rattle.std.specs.Prelude.{◌≡◌, ℕ, List, Ok, Err, Result}
use Rattle.arrayvec.specs.ArrayVec.{ArrayVec}
use Rattle.faults.specs.declared.file.FileFault.{FileFault}
use Rattle.faults.specs.declared.file.FileFault.TheVariants.{Length, Content, Single, Cell, Subject}
use Rattle.faults.specs.declared.file.RecordFault.{RecordFault}
use Rattle.faults.specs.Places.{FirstAt}
use Rattle.records.specs.declared.entry.Entry.{Entry}
use Rattle.patterns.specs.Files.{Whole, ContentFault, FileSays}

-- refused for its length, then for the first record that says nothing
abbrev pub Undecoded : List ℕ → ℕ → FileFault → Type 0
Undecoded bytes place Length = (Whole bytes → ⊥) × (place ≡ 0)
Undecoded bytes place Content = Whole bytes × FirstAt (ContentFault bytes) place
Undecoded bytes place Single = ⊥
Undecoded bytes place Cell = ⊥
Undecoded bytes place (Subject fault) = ⊥

-- the entries of the file, or the refusal
abbrev pub Decoded : List ℕ → Result (ArrayVec Entry) RecordFault → Type 0
Decoded bytes (Ok es) = FileSays bytes es.items
Decoded bytes (Err fault) = Undecoded bytes fault.record fault.fault
