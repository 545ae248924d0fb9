-- The cell records of a file: when they are refused, and the cells that they give.
use Rattle.std.specs.Prelude.{◌≡◌, ℕ, ◌-◌, ◌<◌, ◌⊎◌, List, ◌++◌, length, take, replicate, slice_index}
use Rattle.faults.specs.Places.{Faulty, NoneAt, FirstAt}
use Rattle.monomials.specs.Monomials.{Mono, mono}
use Rattle.polynomials.specs.Arrays.{cells_of, cell_at, Inside}
use Rattle.records.specs.declared.entry.Entry.{Entry}
use Rattle.records.specs.declared.entry.Entry.TheVariants.{Field, Order, Period, Cell}
use Rattle.patterns.specs.Files.{blank, entry}

-- the entry is a cell with these coordinates
abbrev pub AtCell : Mono → Entry → Type 0
AtCell c (Field field) = ⊥
AtCell c (Order order) = ⊥
AtCell c (Period period) = ⊥
AtCell c (Cell cell) = mono cell.coordinates.exponents ≡ c

-- the record at a place is of the cell with these coordinates
abbrev pub OfCell : List Entry → Mono → ℕ → Type 0
OfCell es c = Faulty blank (AtCell c) es

-- the code that an entry gives its cell
abbrev pub code_of : Entry → ℕ
code_of (Field field) = 0
code_of (Order order) = 0
code_of (Period period) = 0
code_of (Cell cell) = cell.code

-- the entry is a cell outside the period, or with a non-zero coordinate beyond the axes; or a record before the place is of its cell
abbrev pub Misplaced : List ℕ → List Entry → ℕ → Entry → Type 0
Misplaced ns es i (Field field) = ⊥
Misplaced ns es i (Order order) = ⊥
Misplaced ns es i (Period period) = ⊥
Misplaced ns es i (Cell cell) =
    (Inside ns (mono cell.coordinates.exponents) → ⊥) ⊎ ((j : ℕ) × (j < i) × OfCell es (mono cell.coordinates.exponents) j)

-- the record at a place is misplaced
abbrev pub CellFault : List ℕ → List Entry → ℕ → Type 0
CellFault ns es i = (i < length es) × Misplaced ns es i (entry es i)

-- a cell of the period has no record
abbrev pub CellMissing : List ℕ → List Entry → Type 0
CellMissing ns es = (k : ℕ) × (k < cells_of ns) × NoneAt (OfCell es (cell_at ns k))

-- refused at the first record that is misplaced, or else, where a cell has none, at the number of records
abbrev pub CellsRefused : List ℕ → List Entry → ℕ → Type 0
CellsRefused ns es place =
    FirstAt (CellFault ns es) place ⊎ (NoneAt (CellFault ns es) × CellMissing ns es × (place ≡ length es))

-- the cells of the period: each has a record, and the code of its record
pub record CellsAre (ns : List ℕ) (es : List Entry) (cells : List ℕ) : Type 0 where
  pub count : length cells ≡ cells_of ns
  pub codes : (k : ℕ) → k < cells_of ns → (i : ℕ) × OfCell es (cell_at ns k) i × (slice_index cells k ≡ code_of (entry es i))

-- of 64 codes, those after the first so many are 0
abbrev pub ZeroAfter : ℕ → List ℕ → Type 0
ZeroAfter width codes = codes ≡ take width codes ++ replicate (64 - width) 0

-- 64 codes: those of the cells, and 0 after them
pub record Gathered (ns : List ℕ) (es : List Entry) (width : ℕ) (codes : List ℕ) : Type 0 where
  pub long : length codes ≡ 64
  pub first : CellsAre ns es (take width codes)
  pub rest : ZeroAfter width codes
