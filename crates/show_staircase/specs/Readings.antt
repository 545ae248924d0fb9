-- What the words and lines of a listing say.
use Rattle.std.specs.Prelude.{◌≡◌, ℕ, ◌^◌, ◌<◌, ◌≤◌, ◌⊎◌, List, [], ◌∷◌, ◌++◌, length, Some, None, codes, Option, ◌≢◌, slice_index}
use Rattle.std.specs.Str.Parse.{IsNumeral, digits_value, without_leading_plus}
use Rattle.std.specs.List.{AllByRecursion}
use Rattle.rows.specs.declared.verdict.Verdict.{Verdict}
use Rattle.rows.specs.declared.verdict.Verdict.TheVariants.{Stair, Relation}
use Rattle.show_staircase.specs.declared.grounds.Ground.{Ground}
use Rattle.show_staircase.specs.declared.grounds.Ground.TheVariants as grounds
use Rattle.show_staircase.specs.declared.marks.Listed.{Listed}

-- the largest exponent that is drawn, since one more has two digits still
abbrev pub largest : ℕ
largest = 98

-- a byte is not in a text
abbrev pub Lacks : ℕ → List ℕ → Type 0
Lacks c text = (i : ℕ) → i < length text → slice_index text i ≢ c

-- a word writes a number of 64 bits
abbrev pub Number : List ℕ → Type 0
Number word = IsNumeral 10 (without_leading_plus word) × (digits_value 10 (without_leading_plus word) < 2 ^ 64)

-- a word writes an exponent that is drawn
abbrev pub Exponent : List ℕ → ℕ → Type 0
Exponent word n = IsNumeral 10 (without_leading_plus word) × (n ≡ digits_value 10 (without_leading_plus word)) × (n ≤ largest)

-- the exponent that a word writes, or none that is drawn
abbrev pub ReadsExponent : List ℕ → Option ℕ → Type 0
ReadsExponent word (Some n) = Exponent word n
ReadsExponent word None = (n : ℕ) → Exponent word n → ⊥

-- a text is two exponents with a space between
abbrev pub Pair : List ℕ → ℕ → ℕ → Type 0
Pair text u v = (first : List ℕ) × (second : List ℕ) × (text ≡ first ++ (32 ∷ second)) × Exponent first u × Exponent second v

-- no exponents are so
abbrev pub Never : (ℕ → ℕ → Type 0) → Type 0
Never So = (u v : ℕ) → So u v → ⊥

-- a byte of codes: a digit or a space
abbrev pub CodeByte : ℕ → Type 0
CodeByte b = (b ≡ 32) ⊎ ((48 ≤ b) × (b ≤ 57))

-- a text of digits and spaces only
abbrev pub Codes : List ℕ → Type 0
Codes text = (k : ℕ) → k < length text → CodeByte (slice_index text k)

-- a text is the two exponents of a relation, a colon and codes
abbrev pub RelationText : List ℕ → ℕ → ℕ → Type 0
RelationText text u v = (pair : List ℕ) × (tail : List ℕ) × (text ≡ pair ++ (codes " :" ++ tail)) × Codes tail × Pair pair u v

-- a line lists the exponents as a stair or as a relation
abbrev pub ListsAs : Verdict → List ℕ → ℕ → ℕ → Type 0
ListsAs Stair line u v = (rest : List ℕ) × (line ≡ codes "stair" ++ (32 ∷ rest)) × Pair rest u v
ListsAs Relation line u v = (rest : List ℕ) × (line ≡ codes "rel" ++ (32 ∷ rest)) × RelationText rest u v

-- a line lists a monomial
abbrev pub Lists : List ℕ → Listed → Type 0
Lists line l = ListsAs l.verdict line l.exponents.u l.exponents.v

-- the grounds of a line that lists no monomial
abbrev pub NoMonomial : Ground → Type 0
NoMonomial ground = (ground ≡ grounds.Line) ⊎ ((ground ≡ grounds.Axes) ⊎ (ground ≡ grounds.Exponent))

-- a line is a word and a number
abbrev pub Counting : List ℕ → List ℕ → Type 0
Counting word line = (number : List ℕ) × (line ≡ word ++ (32 ∷ number)) × Number number

-- a text is `G at P`
abbrev pub GroundAt : List ℕ → Type 0
GroundAt text = (ground : List ℕ) × (tail : List ℕ) × (text ≡ ground ++ (32 ∷ tail)) × Number ground × Counting (codes "at") tail

-- a line is `refused G at P`
abbrev pub RefusalLine : List ℕ → Type 0
RefusalLine line = (rest : List ℕ) × (line ≡ codes "refused" ++ (32 ∷ rest)) × GroundAt rest

-- lines list the monomials, one each and in their order
abbrev pub ListsEach : List (List ℕ) → List Listed → Type 0
ListsEach [] [] = Unit {0}
ListsEach [] (l ∷ ls) = ⊥
ListsEach (line ∷ lines) [] = ⊥
ListsEach (line ∷ lines) (l ∷ ls) = Lists line l × ListsEach lines ls

-- lines list the monomials, of which there is one at least, and the last line is the score
abbrev pub ListsUpToScore : List (List ℕ) → List Listed → Type 0
ListsUpToScore lines ls =
    (each : List (List ℕ)) × (score : List ℕ) × (lines ≡ each ++ score ∷ []) × ListsEach each ls × (0 < length ls) × Counting (codes "score") score

-- the lines of a listing: the heading, those of the monomials, and the score
abbrev pub IsListing : List (List ℕ) → List Listed → Type 0
IsListing lines ls =
    (heading : List ℕ) × (below : List (List ℕ)) × (lines ≡ heading ∷ below) × Counting (codes "judged") heading × ListsUpToScore below ls

-- a listed monomial has exponents that are drawn
abbrev pub Drawn : Listed → Type 0
Drawn l = (l.exponents.u ≤ largest) × (l.exponents.v ≤ largest)

-- each listed monomial does
abbrev pub AllDrawn : List Listed → Type 0
AllDrawn ls = AllByRecursion Drawn ls
