-- Lines in echelon form by their pivots. What is said of them speaks of numbers and of zero codes only, under no field.
use Rattle.std.specs.Prelude.{◌≡◌, ℕ, ◌<◌, ◌≤◌, true, false, List, length, take, ◌≢◌, slice_index}
use Rattle.rows.specs.declared.line.Line.{Line}
use Rattle.rows.specs.Lines.{line, is_stair, stairs_of}

-- the pivot of every stair is a position below the width
abbrev pub PivotsInside : ℕ → List Line → Type 0
PivotsInside w lines = (i : ℕ) → i < length lines → is_stair (line lines i) ≡ true → (line lines i).pivot < w

-- the image of a stair is not zero at its pivot
abbrev pub PivotsAlive : List Line → Type 0
PivotsAlive lines = (i : ℕ) → i < length lines → is_stair (line lines i) ≡ true → slice_index (line lines i).image (line lines i).pivot ≢ 0

-- and it is zero before its pivot
abbrev pub PivotsFirst : List Line → Type 0
PivotsFirst lines = (i : ℕ) → i < length lines → is_stair (line lines i) ≡ true → (k : ℕ) → k < (line lines i).pivot → slice_index (line lines i).image k ≡ 0

-- the image of every line is zero at the pivots of the stairs before it
abbrev pub PivotsClear : List Line → Type 0
PivotsClear lines = (i j : ℕ) → i < j → j < length lines → is_stair (line lines i) ≡ true → slice_index (line lines j).image (line lines i).pivot ≡ 0

-- a relation has the pivot 64
abbrev pub RelationsEnded : List Line → Type 0
RelationsEnded lines = (i : ℕ) → i < length lines → is_stair (line lines i) ≡ false → (line lines i).pivot ≡ 64

-- the image of a relation is zero everywhere
abbrev pub RelationsZero : List Line → Type 0
RelationsZero lines = (i : ℕ) → i < length lines → is_stair (line lines i) ≡ false → (k : ℕ) → slice_index (line lines i).image k ≡ 0

-- the codes of every combination are below the order
abbrev pub CombinationsBelow : ℕ → List Line → Type 0
CombinationsBelow q lines = (i : ℕ) → i < length lines → (j : ℕ) → slice_index (line lines i).combination j < q

-- the codes of every image are below the order
abbrev pub ImagesBelow : ℕ → List Line → Type 0
ImagesBelow q lines = (i : ℕ) → i < length lines → (k : ℕ) → slice_index (line lines i).image k < q

-- every image is zero from the width on
abbrev pub ImagesNarrow : ℕ → List Line → Type 0
ImagesNarrow w lines = (i : ℕ) → i < length lines → (k : ℕ) → w ≤ k → slice_index (line lines i).image k ≡ 0

-- every combination is zero but at the stairs before its line
abbrev pub CombinationsShort : List Line → Type 0
CombinationsShort lines = (i : ℕ) → i < length lines → (j : ℕ) → length (stairs_of (take i lines)) ≤ j → slice_index (line lines i).combination j ≡ 0

-- lines of width w, with codes below q, in echelon form
pub record Echelon (w q : ℕ) (lines : List Line) : Type 0 where
  pub inside : PivotsInside w lines
  pub alive : PivotsAlive lines
  pub first : PivotsFirst lines
  pub clear : PivotsClear lines
  pub ended : RelationsEnded lines
  pub zero : RelationsZero lines
  pub combinations : CombinationsBelow q lines
  pub images : ImagesBelow q lines
  pub narrow : ImagesNarrow w lines
  pub short : CombinationsShort lines
