-- What is taken up of a line, and what a line is refused for.
use Rattle.std.specs.Prelude.{◌≡◌, ℕ, ◌⊎◌, List, ◌≢◌, slice_index}
use Rattle.std.specs.Char.{is_not_whitespace}
use Rattle.std.specs.Str.{NoCharPasses}
use Rattle.pattern_records.specs.declared.fault.Fault.{Fault}
use Rattle.pattern_records.specs.declared.keyword.Keyword.{Keyword}
use Rattle.pattern_records.specs.declared.pattern.Pattern.{Pattern}
use Rattle.pattern_records.specs.Patterns.{Takes, Refuses}
use Rattle.pattern_records.specs.Reading.{First, Opened, NotOpened, Reads, NotRead}

-- a line is blank, or a comment
abbrev pub Silent : List ℕ → Type 0
Silent line = NoCharPasses is_not_whitespace line ⊎ ((first : List ℕ) × (after : List ℕ) × First line first after × (slice_index first 0 ≡ 35))

-- a line has a first word, which begins no comment
abbrev pub Speaks : List ℕ → List ℕ → List ℕ → Type 0
Speaks line first after = First line first after × (slice_index first 0 ≢ 35)

-- a first word and what comes after it are a keyword with numbers
abbrev pub States : List ℕ → List ℕ → Keyword → List ℕ → Type 0
States first after keyword ns = (rest : List ℕ) × Opened first after keyword rest × Reads rest ns

-- there is no keyword, or a word after it is no number
abbrev pub StatesNothing : List ℕ → List ℕ → Fault → Type 0
StatesNothing first after fault = NotOpened first after fault ⊎ ((keyword : Keyword) × (rest : List ℕ) × Opened first after keyword rest × NotRead rest fault)

-- what a first word and those after it state is taken up
abbrev pub TakesWords : List ℕ → List ℕ → Pattern → Pattern → Type 0
TakesWords first after old new = (keyword : Keyword) × (ns : List ℕ) × States first after keyword ns × Takes keyword ns old new

-- the words state nothing, or what they state is refused
abbrev pub RefusesWords : List ℕ → List ℕ → Pattern → Fault → Type 0
RefusesWords first after old fault =
    StatesNothing first after fault ⊎ ((keyword : Keyword) × (ns : List ℕ) × States first after keyword ns × Refuses keyword ns old fault)

-- what a line says is taken up
abbrev pub TakesLine : List ℕ → Pattern → Pattern → Type 0
TakesLine line old new = (Silent line × (new ≡ old)) ⊎ ((first : List ℕ) × (after : List ℕ) × Speaks line first after × TakesWords first after old new)

-- a line is refused
abbrev pub RefusesLine : List ℕ → Pattern → Fault → Type 0
RefusesLine line old fault = (first : List ℕ) × (after : List ℕ) × Speaks line first after × RefusesWords first after old fault
