-- The cells that codes in storage order are.
use Rattle.std.specs.Prelude.{◌≡◌, ℕ, suc, ◌+◌, ◌<◌, List, [], ◌∷◌, ◌++◌, length}
use Rattle.monomials.specs.Monomials.{Mono}
use Rattle.polynomials.specs.Arrays.{cells_of, cell_at}
use Rattle.records.specs.declared.entry.Entry.{Entry}
use Rattle.records.specs.declared.entry.Entry.TheVariants.{Cell}
use Rattle.pattern_records.specs.declared.fault.Fault.{Fault}
use Rattle.pattern_records.specs.declared.fault.Fault.TheVariants.{NotText, Unknown, NotNumber, Wants, EarlyCells, EmptyPeriod, ManyCells, Memory}

-- the entry of a cell with a code
abbrev pub cell_entry : Mono → ℕ → Entry
cell_entry c code = Cell (record { coordinates = record { exponents = c.e0 ∷ c.e1 ∷ c.e2 ∷ c.e3 ∷ [] }; code = code })

-- the entries of the cells from a position on, one for each code
abbrev pub cell_entries : List ℕ → ℕ → List ℕ → List Entry
cell_entries ns position [] = []
cell_entries ns position (code ∷ codes) = cell_entry (cell_at ns position) code ∷ cell_entries ns (suc position) codes

-- the cells follow the entries, and the next position is the answer
pub record Added (ns : List ℕ) (position : ℕ) (codes : List ℕ) (before after : List Entry) (next : ℕ) : Type 0 where
  pub entries : after ≡ before ++ cell_entries ns position codes
  pub counted : next ≡ position + length codes

-- what is wrong where the period has no such cell: it has none at all, or others
abbrev pub NoCell : List ℕ → Fault → Type 0
NoCell ns EmptyPeriod = cells_of ns ≡ 0
NoCell ns ManyCells = 0 < cells_of ns
NoCell ns NotText = ⊥
NoCell ns (Unknown word) = ⊥
NoCell ns (NotNumber word) = ⊥
NoCell ns (Wants keyword) = ⊥
NoCell ns EarlyCells = ⊥
NoCell ns Memory = ⊥

-- the period has no cells, there are more codes than cells left, or memory failed
abbrev pub NotAdded : List ℕ → ℕ → List ℕ → Fault → Type 0
NotAdded ns position codes EmptyPeriod = cells_of ns ≡ 0
NotAdded ns position codes ManyCells = (0 < cells_of ns) × (cells_of ns < position + length codes)
NotAdded ns position codes Memory = Unit {0}
NotAdded ns position codes NotText = ⊥
NotAdded ns position codes (Unknown word) = ⊥
NotAdded ns position codes (NotNumber word) = ⊥
NotAdded ns position codes (Wants keyword) = ⊥
NotAdded ns position codes EarlyCells = ⊥
