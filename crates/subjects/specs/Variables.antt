-- The number of variables of a subject.
use Rattle.std.specs.Prelude.{ℕ, ◌≤◌}

-- there are 1 to 4 variables
pub record VariablesFit (m : ℕ) : Type 0 where
  pub some : 1 ≤ m
  pub few : m ≤ 4
