-- A line: its monomial, its polynomial over the stairs before it, and when it stands.
use Rattle.std.specs.Prelude.{◌≡◌, ℕ, ◌<◌, ◌≤◌, Bool, true, false, not, List, [], ◌∷◌, length, take, filter, ◌≢◌, slice_index, slice_index_or}
use Rattle.fields.specs.Arithmetic.{Arithmetic}
use Rattle.monomials.specs.Monomials.{Mono, mono}
use Rattle.polynomials.specs.Polynomials.{Poly}
use Rattle.polynomials.specs.Subjects.{SubjectMeaning, image_of}
use Rattle.rows.specs.declared.line.Line.{Line}
use Rattle.rows.specs.declared.verdict.Verdict.{Verdict}
use Rattle.rows.specs.declared.verdict.Verdict.TheVariants.{Stair as stair, Relation as relation}

-- the monomial that the line judges
abbrev pub monomial_of : Line → Mono
monomial_of l = mono l.monomial.exponents

-- what stands past the end of a list of lines
abbrev pub blank : Line
blank = record { monomial = record { exponents = [] }; verdict = stair; combination = []; image = []; pivot = 0 }

-- the line at a place
abbrev pub line : List Line → ℕ → Line
line lines i = slice_index_or lines i blank

-- whether a line is a stair
abbrev pub is_stair : Line → Bool
is_stair l = elim l.verdict [ stair ↦ true | relation ↦ false ]

-- whether a line is a relation
abbrev pub is_relation : Line → Bool
is_relation l = not (is_stair l)

-- the stairs among the lines, in their order
abbrev pub stairs_of : List Line → List Line
stairs_of lines = filter is_stair lines

-- the relations among the lines, in their order
abbrev pub relations_of : List Line → List Line
relations_of lines = filter is_relation lines

-- the combination of stairs by codes: code j at stair j
abbrev pub on_stairs : List Line → List ℕ → Poly
on_stairs [] cs = []
on_stairs (s ∷ ss) [] = []
on_stairs (s ∷ ss) (c ∷ cs) = record { at = monomial_of s; code = c } ∷ on_stairs ss cs

-- the line's polynomial: 1 at its monomial, and its combination on the stairs before it
abbrev pub polynomial : List Line → Line → Poly
polynomial before l = record { at = monomial_of l; code = 1 } ∷ on_stairs (stairs_of before) l.combination

-- what a verdict says of the image: a stair's first non-zero code stands at its pivot, a relation has none and the pivot 64
abbrev pub Says : Verdict → Line → Type 0
Says stair l = (slice_index l.image l.pivot ≢ 0) × ((k : ℕ) → k < l.pivot → slice_index l.image k ≡ 0)
Says relation l = (l.pivot ≡ 64) × ((k : ℕ) → slice_index l.image k ≡ 0)

-- written out at full length: four exponents, 64 codes of the combination, 64 of the image
pub record FullLength (l : Line) : Type 0 where
  pub exponents : length l.monomial.exponents ≡ 4
  pub combination : length l.combination ≡ 64
  pub image : length l.image ≡ 64

-- the line stands for its monomial after the lines before it
pub record Stands (S : SubjectMeaning) (A : Arithmetic) (before : List Line) (l : Line) : Type 0 where
  pub full : FullLength l
  -- the combination is of codes, on the stairs before the line
  pub codes : (j : ℕ) → slice_index l.combination j < A.order
  pub unused : (j : ℕ) → length (stairs_of before) ≤ j → slice_index l.combination j ≡ 0
  -- the image codes are the image of the line's polynomial
  pub image : (k : ℕ) → k < S.width → slice_index l.image k ≡ image_of S A (polynomial before l) k
  pub past : (k : ℕ) → S.width ≤ k → slice_index l.image k ≡ 0
  -- that image is 0 at the pivot of every stair before the line, and the verdict is as it says
  pub clear : (j : ℕ) → j < length (stairs_of before) → slice_index l.image (line (stairs_of before) j).pivot ≡ 0
  pub says : Says l.verdict l

-- each line stands after those before it
abbrev pub AllStand : SubjectMeaning → Arithmetic → List Line → Type 0
AllStand S A lines = (i : ℕ) → i < length lines → Stands S A (take i lines) (line lines i)

-- for a monomial, exactly one line stands after the lines before it
pub record OneLine (S : SubjectMeaning) (A : Arithmetic) (before : List Line) (a : Mono) : Type 0 where
  pub line : Line
  pub own : monomial_of line ≡ a
  pub stands : Stands S A before line
  pub only : (other : Line) → monomial_of other ≡ a → Stands S A before other → other ≡ line
