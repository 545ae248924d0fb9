-- Lines in the making: which monomials wait, which is next, when the list is finished, and lines kept to a set-up.
use Rattle.std.specs.Prelude.{◌≡◌, ℕ, ◌+◌, ◌*◌, ◌<◌, ◌≤◌, true, false, ◌⊎◌, List, length, take}
use Rattle.monomials.specs.Monomials.{Mono, one, times, variable, Divides}
use Rattle.monomials.specs.Orders.{Order, Before}
use Rattle.rows.specs.declared.line.Line.{Line}
use Rattle.rows.specs.Ideals.{SetUp}
use Rattle.rows.specs.Lines.{monomial_of, line, is_stair, stairs_of, relations_of, AllStand}

-- a is judged: the monomial of a line
abbrev pub Judged : List Line → Mono → Type 0
Judged lines a = (i : ℕ) × (i < length lines) × (monomial_of (line lines i) ≡ a)

-- a is a multiple of a listed lead, the monomial of a relation
abbrev pub Multiple : List Line → Mono → Type 0
Multiple lines a = (i : ℕ) × (i < length lines) × (is_stair (line lines i) ≡ false) × Divides (monomial_of (line lines i)) a

-- a is the product of a stair's monomial by one of m variables
abbrev pub Borders : ℕ → List Line → Mono → Type 0
Borders m lines a = (i : ℕ) × (v : ℕ) × (i < length lines) × (v < m) × (is_stair (line lines i) ≡ true) ×
    (times (monomial_of (line lines i)) (variable v) ≡ a)

-- a waits: 1 while nothing is judged; later a product of a stair's monomial by a variable that is neither judged nor
-- a multiple of a listed lead
abbrev pub Waits : ℕ → List Line → Mono → Type 0
Waits m lines a =
    ((length lines ≡ 0) × (a ≡ one)) ⊎ (Borders m lines a × (Judged lines a → ⊥) × (Multiple lines a → ⊥))

-- a is next: the first, by the order, of those that wait
pub record Next (m : ℕ) (O : Order) (lines : List Line) (a : Mono) : Type 0 where
  pub waits : Waits m lines a
  pub first : (b : Mono) → Waits m lines b → Before O b a → ⊥

-- finished: nothing waits
abbrev pub Finished : ℕ → List Line → Type 0
Finished m lines = (a : Mono) → Waits m lines a → ⊥

-- kept to the set-up: each line was the next, and stands
pub record Kept (U : SetUp) (lines : List Line) : Type 0 where
  pub next : (i : ℕ) → i < length lines → Next U.subject.variables U.order (take i lines) (monomial_of (line lines i))
  pub stands : AllStand U.subject U.field lines

-- how many lines there are: a stair or a relation each, no more stairs than positions, and a bound on the lines by the stairs
pub record Counted (U : SetUp) (lines : List Line) : Type 0 where
  pub each : length lines ≡ length (stairs_of lines) + length (relations_of lines)
  pub stairs : length (stairs_of lines) ≤ U.subject.width
  pub bounded : length lines ≤ U.subject.variables * length (stairs_of lines) + 1
