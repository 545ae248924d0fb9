-- When periods and cells are refused, and by which ground.
use Rattle.std.specs.Prelude.{◌≡◌, ℕ, ◌+◌, ◌*◌, ◌<◌, ◌≤◌, ◌⊎◌, List, length, take, Some, None, Option, ◌≢◌}
use Rattle.faults.specs.Places.{FirstAt, NoneAt}
use Rattle.faults.specs.declared.subject.SubjectFault.{SubjectFault}
use Rattle.faults.specs.declared.subject.SubjectFault.TheVariants.{Variables, Period, Points, Count, Code, Arithmetic}
use Rattle.fields.specs.Codes.{CodeFault}
use Rattle.polynomials.specs.Arrays.{period, cells_of}
use Rattle.subjects.specs.Variables.{VariablesFit}

-- the period is 0, or the product of the periods so far is above 64
pub record PeriodFault (ns : List ℕ) (v : ℕ) : Type 0 where
  pub within : v < length ns
  pub outside : (period ns v ≡ 0) ⊎ (64 < cells_of (take (v + 1) ns))

-- the product with one period more: absent where it is 0 or above 64
abbrev pub Widened : ℕ → ℕ → Option ℕ → Type 0
Widened width n None = width * n ≤ 64 → width * n ≡ 0
Widened width n (Some wider) = (wider ≡ width * n) × (0 < wider) × (wider ≤ 64)

-- 1 to 4 periods, none of them at fault
pub record PeriodsAdmitted (ns : List ℕ) : Type 0 where
  pub variables : VariablesFit (length ns)
  pub faultless : NoneAt (PeriodFault ns)

-- the first ground that applies to periods
abbrev pub PeriodsRefused : List ℕ → SubjectFault → Type 0
PeriodsRefused ns Variables = VariablesFit (length ns) → ⊥
PeriodsRefused ns (Period axis) = VariablesFit (length ns) × FirstAt (PeriodFault ns) axis
PeriodsRefused ns Points = ⊥
PeriodsRefused ns Count = ⊥
PeriodsRefused ns (Code cell) = ⊥
PeriodsRefused ns (Arithmetic fault) = ⊥

-- no ground applies to periods and cells under a field of this order
pub record ArrayAdmitted (order : ℕ) (ns cells : List ℕ) : Type 0 where
  pub periods : PeriodsAdmitted ns
  pub count : length cells ≡ cells_of ns
  pub codes : NoneAt (CodeFault order cells)

-- the first ground that applies
abbrev pub ArrayRefused : ℕ → List ℕ → List ℕ → SubjectFault → Type 0
ArrayRefused order ns cells Variables = VariablesFit (length ns) → ⊥
ArrayRefused order ns cells (Period axis) = VariablesFit (length ns) × FirstAt (PeriodFault ns) axis
ArrayRefused order ns cells Points = ⊥
ArrayRefused order ns cells Count = PeriodsAdmitted ns × (length cells ≢ cells_of ns)
ArrayRefused order ns cells (Code cell) = PeriodsAdmitted ns × (length cells ≡ cells_of ns) × FirstAt (CodeFault order cells) cell
ArrayRefused order ns cells (Arithmetic fault) = ⊥
