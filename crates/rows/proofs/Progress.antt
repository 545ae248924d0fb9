-- Lines as far as some monomials have been seen: the invariants of the work on them.
use Rattle.std.proofs.Common.{◌≡◌, ℕ, ◌<◌, true, false, ◌⊎◌, List, length}
use Rattle.monomials.specs.Monomials.{Mono, one, times, variable, Divides, Within}
use Rattle.monomials.specs.Orders.{Before}
use Rattle.rows.specs.declared.line.Line.{Line}
use Rattle.rows.specs.Ideals.{SetUp}
use Rattle.rows.specs.Lines.{monomial_of, line, is_stair, AllStand}

-- the monomial of a stair of the row
abbrev pub OnStair : List Line → Mono → Type 0
OnStair row a = (i : ℕ) × (i < length row) × (is_stair (line row i) ≡ true) × (monomial_of (line row i) ≡ a)

-- on a line, or a multiple of a relation's monomial
abbrev pub Settled : List Line → Mono → Type 0
Settled row a = (i : ℕ) × (i < length row) ×
    ((monomial_of (line row i) ≡ a) ⊎ ((is_stair (line row i) ≡ false) × Divides (monomial_of (line row i)) a))

-- no line's monomial is a multiple of an earlier relation's
abbrev pub Fresh : List Line → Type 0
Fresh row = (i j : ℕ) → i < j → j < length row → is_stair (line row i) ≡ false →
    Divides (monomial_of (line row i)) (monomial_of (line row j)) → ⊥

-- the lines ascend, and each stands after those before it
pub record Standing (U : SetUp) (row : List Line) : Type 0 where
  pub ascends : (i j : ℕ) → i < j → j < length row → Before U.order (monomial_of (line row i)) (monomial_of (line row j))
  pub stands : AllStand U.subject U.field row

-- the row as far as some monomials have been seen
pub record Progress (U : SetUp) (Seen : Mono → Type 0) (row : List Line) : Type 0 where
  pub lines : Standing U row
  pub within : (i : ℕ) → i < length row → Within U.subject.variables (monomial_of (line row i))
  -- no line is a multiple of an earlier relation, and a line's quotients by variables are stairs
  pub fresh : Fresh row
  pub quotients : (i : ℕ) → i < length row → (a : Mono) (v : ℕ) → v < U.subject.variables → times a (variable v) ≡ monomial_of (line row i) → OnStair row a
  -- what has been seen
  pub earlier : (a b : Mono) → Before U.order a b → Seen b → Seen a
  pub seen : (a : Mono) → Seen a ⊎ (Seen a → ⊥)
  pub lines_seen : (i : ℕ) → i < length row → Seen (monomial_of (line row i))
  pub start : Seen one → Settled row one
  pub border : (i v : ℕ) → i < length row → is_stair (line row i) ≡ true → v < U.subject.variables →
      Seen (times (monomial_of (line row i)) (variable v)) → Settled row (times (monomial_of (line row i)) (variable v))
