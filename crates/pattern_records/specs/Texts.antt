-- How a text is read, line by line.
use Rattle.std.specs.Prelude.{◌≡◌, ℕ, ◌+◌, ◌<◌, List, [], ◌∷◌, length, take, count_by, ◌==◌}
use Rattle.std.specs.Str.Lines.{IsFirstLine}
use Rattle.std.specs.Str.{IsValidUpTo}
use Rattle.pattern_records.specs.declared.fault.Fault.TheVariants.{NotText}
use Rattle.pattern_records.specs.declared.pattern.Pattern.{Pattern}
use Rattle.pattern_records.specs.declared.text.LineFault.{LineFault}
use Rattle.pattern_records.specs.Lines.{TakesLine, RefusesLine}
use Rattle.pattern_records.specs.Patterns.{Empty}

-- a text begins with a line
abbrev pub Begins : List ℕ → List ℕ → List ℕ → Type 0
Begins text line rest = (0 < length text) × IsFirstLine text line rest

-- a text begins with these lines
abbrev pub LinesTo : List ℕ → List (List ℕ) → List ℕ → Type 0
LinesTo text [] rest = rest ≡ text
LinesTo text (line ∷ lines) rest = (next : List ℕ) × Begins text line next × LinesTo next lines rest

-- how many newlines bytes have
abbrev pub newlines : List ℕ → ℕ
newlines bytes = count_by (λ b. b == 10) bytes

-- lines are taken up one after another
abbrev pub TakesLines : List (List ℕ) → Pattern → Pattern → Type 0
TakesLines [] old new = new ≡ old
TakesLines (line ∷ lines) old new = (between : Pattern) × TakesLine line old between × TakesLines lines between new

-- a text begins with lines that say a pattern, from nothing on
abbrev pub SaysLines : List ℕ → List (List ℕ) → List ℕ → Pattern → Type 0
SaysLines text lines rest p = (none : Pattern) × Empty none × LinesTo text lines rest × TakesLines lines none p

-- the lines of a text say a pattern
abbrev pub SaysText : List ℕ → Pattern → Type 0
SaysText text p = (lines : List (List ℕ)) × (rest : List ℕ) × SaysLines text lines rest p × (length rest ≡ 0)

-- some line of a text is refused, after those before it were taken up; lines are counted from 1
abbrev pub RefusesText : List ℕ → LineFault → Type 0
RefusesText text e = (lines : List (List ℕ)) × (rest : List ℕ) × (p : Pattern) × (line : List ℕ) × (left : List ℕ) ×
    SaysLines text lines rest p × Begins rest line left × RefusesLine line p e.fault × (e.line ≡ length lines + 1)

-- bytes are no UTF-8 text: the line is that of the first byte at fault
abbrev pub NoText : List ℕ → LineFault → Type 0
NoText bytes e = (e.fault ≡ NotText) × ((valid : ℕ) × IsValidUpTo bytes valid × (e.line ≡ 1 + newlines (take valid bytes)))
