-- Which weights are admitted.
use Rattle.std.specs.Prelude.{ℕ, ◌<◌, ◌≤◌, List, slice_index}

-- the largest weight
abbrev pub largest_weight : ℕ
largest_weight = 255

-- none of the four weights is above the largest
abbrev pub Admitted : List ℕ → Type 0
Admitted weights = (k : ℕ) → k < 4 → slice_index weights k ≤ largest_weight

-- the weight at a place is above the largest, and none before it is
abbrev pub FirstAbove : List ℕ → ℕ → Type 0
FirstAbove weights k = (k < 4) × (largest_weight < slice_index weights k) × ((j : ℕ) → j < k → slice_index weights j ≤ largest_weight)
