-- The text of a listing: how many lines are judged, the lines, and the score.
use Rattle.std.specs.Prelude.{ℕ, List, ◌++◌, length, take, codes, decimal}
use Rattle.std.specs.List.{flat_map}
use Rattle.rows.specs.declared.line.Line.{Line}
use Rattle.rows.specs.declared.verdict.Verdict.TheVariants.{Stair as stair, Relation as relation}
use Rattle.rows.specs.Lines.{stairs_of}
use Rattle.faults.specs.declared.refusal.Refusal.{Refusal}
use Rattle.faults.specs.Texts.{refusal_text}

-- the end of a line
abbrev pub newline : List ℕ
newline = codes "\n"

-- a space and a number in decimal
abbrev pub after_space : ℕ → List ℕ
after_space n = codes " " ++ decimal n

-- numbers one after another, each after a space
abbrev pub spaced : List ℕ → List ℕ
spaced numbers = flat_map after_space numbers

-- a line with its first exponents, as many as there are variables; of a relation, a colon and a code for each stair too
abbrev pub line_text : ℕ → ℕ → Line → List ℕ
line_text variables stairs l = elim l.verdict [
  | stair ↦ codes "stair" ++ (spaced (take variables l.monomial.exponents) ++ newline)
  | relation ↦ codes "rel" ++ (spaced (take variables l.monomial.exponents) ++ (codes " :" ++ (spaced (take stairs l.combination) ++ newline)))
]

-- lines one after another
abbrev pub lines_text : ℕ → ℕ → List Line → List ℕ
lines_text variables stairs lines = flat_map (line_text variables stairs) lines

-- how many are judged, the lines, and the score
abbrev pub listing_text : ℕ → ℕ → List Line → ℕ → List ℕ
listing_text judged variables lines score =
    codes "judged " ++ (decimal judged ++ (newline ++ (lines_text variables (length (stairs_of lines)) lines ++
    (codes "score " ++ (decimal score ++ newline)))))

-- a refusal on a line of its own
abbrev pub refusal_line : Refusal → List ℕ
refusal_line refusal = refusal_text refusal ++ newline
