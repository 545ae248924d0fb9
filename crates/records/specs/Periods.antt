-- The periods that a record holds, as a list.
use Rattle.std.specs.Prelude.{ℕ, ◌≤◌, List}
use Rattle.records.specs.declared.period.PeriodRecord.{PeriodRecord}
use Rattle.records.specs.declared.period.PeriodRecord.TheVariants.{One, Two, Three, Four}

-- the periods, in their order
abbrev pub periods_of : PeriodRecord → List ℕ
periods_of (One ns) = ns
periods_of (Two ns) = ns
periods_of (Three ns) = ns
periods_of (Four ns) = ns

-- a record holds one to four periods
pub record SomeToFour (count : ℕ) : Type 0 where
  pub some : 1 ≤ count
  pub few : count ≤ 4
