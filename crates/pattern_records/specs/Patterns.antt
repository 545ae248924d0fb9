-- How a line changes what is known of a pattern, and what it is refused for.
use Rattle.std.specs.Prelude.{◌≡◌, ℕ, ◌<◌, List, [], ◌∷◌, ◌++◌, length, Some, None, vec_items, Option, MatchOption}
use Rattle.records.specs.declared.entry.Entry.{Entry}
use Rattle.records.specs.declared.entry.Entry.TheVariants.{Field, Order, Period as APeriod, Cell}
use Rattle.records.specs.declared.period.PeriodRecord.{PeriodRecord}
use Rattle.records.specs.Periods.{periods_of}
use Rattle.pattern_records.specs.declared.fault.Fault.{Fault}
use Rattle.pattern_records.specs.declared.fault.Fault.TheVariants.{NotText, Unknown, NotNumber, Wants, EarlyCells, EmptyPeriod, ManyCells, Memory}
use Rattle.pattern_records.specs.declared.keyword.Keyword.{Keyword}
use Rattle.pattern_records.specs.declared.keyword.Keyword.TheVariants.{Modulus, Degree, Lexicographic, Graded, Weighted, Period, Cells}
use Rattle.pattern_records.specs.declared.pattern.Pattern.{Pattern}
use Rattle.pattern_records.specs.Cells.{Added, NotAdded}
use Rattle.pattern_records.specs.Statements.{Stands}

-- nothing was said
pub record Empty (p : Pattern) : Type 0 where
  pub entries : vec_items p.entries ≡ []
  pub periods : p.periods ≡ None
  pub cells : p.cells ≡ 0

-- the last period after an entry
abbrev pub last_period : Entry → Option PeriodRecord → Option PeriodRecord
last_period (Field f) before = before
last_period (Order o) before = before
last_period (APeriod p) before = Some p
last_period (Cell c) before = before

-- how many cells of the last period were given, after an entry
abbrev pub cells_given : Entry → ℕ → ℕ
cells_given (Field f) before = before
cells_given (Order o) before = before
cells_given (APeriod p) before = 0
cells_given (Cell c) before = before

-- an entry follows the others
pub record Followed (before after : Pattern) (e : Entry) : Type 0 where
  pub entries : vec_items after.entries ≡ vec_items before.entries ++ e ∷ []
  pub periods : after.periods ≡ last_period e before.periods
  pub cells : after.cells ≡ cells_given e before.cells

-- the entry that a keyword stands for follows the others
abbrev pub TakesEntry : Keyword → List ℕ → Pattern → Pattern → Type 0
TakesEntry keyword ns before after = (e : Entry) × Stands keyword ns e × Followed before after e

-- the next cells of the last period follow the others
abbrev pub TakesCells : List ℕ → Pattern → Pattern → Type 0
TakesCells codes before after =
    (0 < length codes) × (after.periods ≡ before.periods) ×
    MatchOption before.periods ⊥ (λ p. Added (periods_of p) before.cells codes (vec_items before.entries) (vec_items after.entries) after.cells)

-- what a keyword says with its numbers is taken up
abbrev pub Takes : Keyword → List ℕ → Pattern → Pattern → Type 0
Takes Modulus = TakesEntry Modulus
Takes Degree = TakesEntry Degree
Takes Lexicographic = TakesEntry Lexicographic
Takes Graded = TakesEntry Graded
Takes Weighted = TakesEntry Weighted
Takes Period = TakesEntry Period
Takes Cells = TakesCells

-- the keyword stands for nothing with these numbers, or memory failed
abbrev pub RefusesEntry : Keyword → List ℕ → Fault → Type 0
RefusesEntry keyword ns (Wants k) = (k ≡ keyword) × ((e : Entry) → Stands keyword ns e → ⊥)
RefusesEntry keyword ns Memory = Unit {0}
RefusesEntry keyword ns NotText = ⊥
RefusesEntry keyword ns (Unknown w) = ⊥
RefusesEntry keyword ns (NotNumber w) = ⊥
RefusesEntry keyword ns EarlyCells = ⊥
RefusesEntry keyword ns EmptyPeriod = ⊥
RefusesEntry keyword ns ManyCells = ⊥

-- there is no code, no period yet, or no such cell, or memory failed
abbrev pub RefusesCells : List ℕ → Pattern → Fault → Type 0
RefusesCells codes before (Wants k) = (k ≡ Cells) × (length codes ≡ 0)
RefusesCells codes before EarlyCells = before.periods ≡ None
RefusesCells codes before EmptyPeriod = MatchOption before.periods ⊥ (λ p. NotAdded (periods_of p) before.cells codes EmptyPeriod)
RefusesCells codes before ManyCells = MatchOption before.periods ⊥ (λ p. NotAdded (periods_of p) before.cells codes ManyCells)
RefusesCells codes before Memory = Unit {0}
RefusesCells codes before NotText = ⊥
RefusesCells codes before (Unknown w) = ⊥
RefusesCells codes before (NotNumber w) = ⊥

-- what a keyword with its numbers is refused for
abbrev pub Refuses : Keyword → List ℕ → Pattern → Fault → Type 0
Refuses Modulus ns before = RefusesEntry Modulus ns
Refuses Degree ns before = RefusesEntry Degree ns
Refuses Lexicographic ns before = RefusesEntry Lexicographic ns
Refuses Graded ns before = RefusesEntry Graded ns
Refuses Weighted ns before = RefusesEntry Weighted ns
Refuses Period ns before = RefusesEntry Period ns
Refuses Cells ns before = RefusesCells ns before
