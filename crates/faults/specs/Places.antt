-- Places at fault. Each ground is tested over all its places before the next ground, and names the first.
use Rattle.std.specs.Prelude.{ℕ, ◌<◌, List, length, Some, None, Option, slice_index_or}

-- the element at a place of the list is at fault; the blank stands past the end of a list
abbrev pub Faulty : {X : Type 0} → X → (X → Type 0) → List X → ℕ → Type 0
Faulty blank Fault xs i = (i < length xs) × Fault (slice_index_or xs i blank)

-- no place is at fault
abbrev pub NoneAt : (ℕ → Type 0) → Type 0
NoneAt Fault = (i : ℕ) → Fault i → ⊥

-- the first place at fault
abbrev pub FirstAt : (ℕ → Type 0) → ℕ → Type 0
FirstAt Fault i = Fault i × ((j : ℕ) → j < i → Fault j → ⊥)

-- a search for the first place at fault
abbrev pub Searched : (ℕ → Type 0) → Option ℕ → Type 0
Searched Fault None = NoneAt Fault
Searched Fault (Some i) = FirstAt Fault i
