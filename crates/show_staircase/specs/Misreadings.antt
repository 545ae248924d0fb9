-- Why a text cannot be drawn, and what is said of it.
use Rattle.std.specs.Prelude.{◌≡◌, ℕ, ◌+◌, List, [], ◌∷◌, ◌++◌, length, codes, decimal, ⊤}
use Rattle.show_staircase.specs.declared.grounds.Ground.{Ground}
use Rattle.show_staircase.specs.declared.grounds.Ground.TheVariants as grounds
use Rattle.show_staircase.specs.declared.grounds.Misread.{Misread}
use Rattle.show_staircase.specs.declared.grounds.ReadError.{ReadError}
use Rattle.show_staircase.specs.declared.grounds.ReadError.TheVariants as errors
use Rattle.show_staircase.specs.declared.marks.Listed.{Listed}
use Rattle.show_staircase.specs.Readings.{Counting, Lists, ListsEach, NoMonomial}

-- the words of a ground
abbrev pub ground_text : Ground → List ℕ
ground_text grounds.Heading = codes "a listing begins with `judged` and a number"
ground_text grounds.Line = codes "neither a stair, a relation nor the score"
ground_text grounds.Axes = codes "not of two axes"
ground_text grounds.Exponent = codes "an exponent is no number up to 98"
ground_text grounds.Unlisted = codes "a score with no monomial before it"
ground_text grounds.Unended = codes "the listing ends with no score"
ground_text grounds.Ended = codes "a line after the score"

-- the line at fault, and the ground
abbrev pub misread_text : Misread → List ℕ
misread_text m = codes "line " ++ (decimal m.line ++ (codes ": " ++ ground_text m.ground))

-- what is said where nothing is read
abbrev pub read_error_text : ReadError → List ℕ
read_error_text errors.OutOfMemory = codes "memory allocation failed"
read_error_text (errors.Misread m) = misread_text m

-- what was misread is told truly, unless no memory is left
abbrev pub Unless : (Misread → Type 0) → ReadError → Type 0
Unless Told errors.OutOfMemory = ⊤
Unless Told (errors.Misread m) = Told m

-- why the lines below a heading, which is line 1, do not list monomials up to a score that ends them, and the line at fault:
-- a line before the score that lists no monomial, a line after the score, a score with no monomial before it, or no score
pub data MisreadsBelow (below : List (List ℕ)) : Misread → Type 0 where
  no_monomial : (each : List (List ℕ)) (ls : List Listed) (line : List ℕ) (rest : List (List ℕ)) (ground : Ground) →
      below ≡ each ++ line ∷ rest → ListsEach each ls → (Counting (codes "score") line → ⊥) → NoMonomial ground →
      ((l : Listed) → Lists line l → ⊥) → MisreadsBelow below (record { line = length each + 2; ground = ground })
  ended : (each : List (List ℕ)) (ls : List Listed) (score next : List ℕ) (rest : List (List ℕ)) →
      below ≡ each ++ score ∷ next ∷ rest → ListsEach each ls → Counting (codes "score") score →
      MisreadsBelow below (record { line = length each + 3; ground = grounds.Ended })
  unlisted : (score : List ℕ) → below ≡ score ∷ [] → Counting (codes "score") score →
      MisreadsBelow below (record { line = 2; ground = grounds.Unlisted })
  unended : (ls : List Listed) → ListsEach below ls → MisreadsBelow below (record { line = length below + 1; ground = grounds.Unended })

-- why lines are no listing, and the line at fault: the first is no heading, or what is below it is misread
pub data Misreads (lines : List (List ℕ)) : Misread → Type 0 where
  unheaded : ((heading : List ℕ) (below : List (List ℕ)) → lines ≡ heading ∷ below → Counting (codes "judged") heading → ⊥) →
      Misreads lines (record { line = 1; ground = grounds.Heading })
  misread_below : (heading : List ℕ) (below : List (List ℕ)) (m : Misread) → lines ≡ heading ∷ below → Counting (codes "judged") heading →
      MisreadsBelow below m → Misreads lines m
