-- What clearing does to an image, by the stairs of lines of any content.
use Rattle.std.specs.Prelude.{◌≡◌, ℕ, ◌%◌, ◌<◌, ◌≤◌, List, length, take, Some, None, Option, ◌≢◌, slice_index, slice_index_or}
use Rattle.fields.specs.Arithmetic.{Arithmetic, total}
use Rattle.rows.specs.declared.line.Line.{Line}
use Rattle.rows.specs.Lines.{line, stairs_of}
use Rattle.elimination.specs.Echelons.{Echelon}

-- after is before with x times the row added, at the places below n
pub record Added (A : Arithmetic) (n : ℕ) (before row : List ℕ) (x : ℕ) (after : List ℕ) : Type 0 where
  pub live : (k : ℕ) → k < n → slice_index after k ≡ A.sum (slice_index before k) (A.product x (slice_index row k))
  pub rest : (k : ℕ) → n ≤ k → slice_index after k ≡ slice_index before k

-- the factor that clears a code by the code at a pivot: absent exactly where that is zero
abbrev pub Clears : Arithmetic → ℕ → ℕ → Option ℕ → Type 0
Clears A code at_pivot None = at_pivot % A.order ≡ 0
Clears A code at_pivot (Some x) = (at_pivot % A.order ≢ 0) × (x < A.order) × (A.sum code (A.product x at_pivot) ≡ 0)

-- a line has nothing to clear by: its pivot is none of 64 positions, or it is zero there
abbrev pub NothingAt : Arithmetic → Line → Type 0
NothingAt A l = l.pivot < 64 → slice_index l.image l.pivot % A.order ≡ 0

-- a factor that clears an image at the pivot of a line, if that is one of 64 positions, and the line is not zero there
pub record ClearsAt (A : Arithmetic) (l : Line) (image : List ℕ) (x : ℕ) : Type 0 where
  pub below : x < A.order
  pub clears : l.pivot < 64 → (slice_index l.image l.pivot % A.order ≢ 0) →
      A.sum (slice_index image l.pivot) (A.product x (slice_index l.image l.pivot)) ≡ 0

-- a multiple of a line, by the factor x, is added to an image and to a combination, and x itself stands at the line's own place
pub record Eliminated (A : Arithmetic) (w place : ℕ) (l : Line) (image codes image' codes' : List ℕ) (x : ℕ) : Type 0 where
  pub below : x < A.order
  pub images : Added A w image l.image x image'
  pub earlier : (j : ℕ) → j < place → slice_index codes' j ≡ A.sum (slice_index codes j) (A.product x (slice_index l.combination j))
  pub own : slice_index_or codes' place 0 ≡ x
  pub later : (j : ℕ) → place < j → slice_index codes' j ≡ slice_index codes j
  -- the image is then zero at the pivot, if the line is not zero there
  pub cleared : l.pivot < w → (slice_index l.image l.pivot % A.order ≢ 0) → slice_index image' l.pivot ≡ 0

-- the images of stairs are combined of vectors: that of stair j is vector j, and its combination of those before it
abbrev pub CombinedOf : Arithmetic → ℕ → List Line → (ℕ → ℕ → ℕ) → Type 0
CombinedOf A w stairs vector = (j : ℕ) → j < length stairs → (k : ℕ) → k < w →
    slice_index (line stairs j).image k ≡ A.sum (vector j k) (total A j (λ i. A.product (slice_index (line stairs j).combination i) (vector i k)))

-- image' and codes are what clearing an image by the stairs among the lines leaves, at the positions below w
pub record Cleared (A : Arithmetic) (w : ℕ) (lines : List Line) (image image' codes : List ℕ) : Type 0 where
  -- whatever the lines hold
  pub codes_below : (j : ℕ) → slice_index codes j < A.order
  pub unused : (j : ℕ) → length (stairs_of lines) ≤ j → slice_index codes j ≡ 0
  pub past : (k : ℕ) → w ≤ k → slice_index image' k ≡ slice_index image k
  pub below : ((k : ℕ) → slice_index image k < A.order) → (k : ℕ) → slice_index image' k < A.order
  -- in echelon form: the image is zero at the pivots
  pub clear : Echelon w A.order lines → (j : ℕ) → j < length (stairs_of lines) → slice_index image' (line (stairs_of lines) j).pivot ≡ 0
  -- combined of vectors: the same vectors, by the codes, have been added to the image
  pub added : length (stairs_of lines) ≤ 64 → ((k : ℕ) → slice_index image k < A.order) →
      (vector : ℕ → ℕ → ℕ) → CombinedOf A w (stairs_of lines) vector → (k : ℕ) → k < w →
      slice_index image' k ≡ A.sum (slice_index image k) (total A (length (stairs_of lines)) (λ j. A.product (slice_index codes j) (vector j k)))

-- lines behind the 64th stair change nothing: where some first lines have 64 stairs, what all leave is what those leave
abbrev pub PassedOver : Arithmetic → ℕ → List Line → List ℕ → List ℕ → List ℕ → Type 0
PassedOver A w lines image image' codes = (i : ℕ) → 64 ≤ length (stairs_of (take i lines)) → Cleared A w (take i lines) image image' codes
