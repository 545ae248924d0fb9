-- Images as arrays of codes.
use Rattle.std.specs.Prelude.{◌≡◌, ℕ, ◌<◌, ◌≤◌, List, slice_index}

-- the codes are those of an image of width w, and zero from w on
pub record Holds (w : ℕ) (image : ℕ → ℕ) (codes : List ℕ) : Type 0 where
  pub inside : (k : ℕ) → k < w → slice_index codes k ≡ image k
  pub past : (k : ℕ) → w ≤ k → slice_index codes k ≡ 0
