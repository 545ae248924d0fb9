-- The cells of a file under its field: what is given, and the first ground against it.
use Rattle.std.specs.Prelude.{◌≡◌, ℕ, List, take, Ok, Err, Result}
use Rattle.faults.specs.Places.{FirstAt, NoneAt}
use Rattle.faults.specs.declared.subject.SubjectFault.TheVariants.{Code}
use Rattle.faults.specs.declared.file.FileFault.{FileFault}
use Rattle.faults.specs.declared.file.FileFault.TheVariants.{Cell, Subject}
use Rattle.faults.specs.declared.file.RecordFault.{RecordFault}
use Rattle.fields.specs.Codes.{CodeFault}
use Rattle.polynomials.specs.Arrays.{cell_at}
use Rattle.records.specs.declared.entry.Entry.{Entry}
use Rattle.patterns.specs.Cells.{OfCell, CellFault, CellsRefused, CellsAre, ZeroAfter}

-- no record is misplaced, and these are the cells, with codes below the order
pub record Filled (order : ℕ) (ns : List ℕ) (es : List Entry) (cells : List ℕ) : Type 0 where
  pub placed : NoneAt (CellFault ns es)
  pub given : CellsAre ns es cells
  pub below : NoneAt (CodeFault order cells)

-- refused by the cell records, then by a code: at the record of the first cell, in cell order, whose code is not below the order
pub data Unfilled (order : ℕ) (ns : List ℕ) (es : List Entry) (place : ℕ) (fault : FileFault) : Type 0 where
  by_cell : fault ≡ Cell → CellsRefused ns es place → Unfilled order ns es place fault
  by_code : (cells : List ℕ) → NoneAt (CellFault ns es) → CellsAre ns es cells → (k : ℕ) → fault ≡ Subject (Code k) →
      FirstAt (CodeFault order cells) k → OfCell es (cell_at ns k) place → Unfilled order ns es place fault

-- 64 codes, of which the first are the cells, and the others 0; or the refusal
abbrev pub Fills : ℕ → List ℕ → List Entry → ℕ → Result (List ℕ) RecordFault → Type 0
Fills order ns es width (Ok codes) = Filled order ns es (take width codes) × ZeroAfter width codes
Fills order ns es width (Err fault) = Unfilled order ns es fault.«record» fault.fault
