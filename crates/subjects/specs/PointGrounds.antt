-- When points are refused, and by which ground.
use Rattle.std.specs.Prelude.{◌≡◌, ℕ, ◌*◌, ◌≤◌, List, length, ◌≢◌}
use Rattle.faults.specs.Places.{FirstAt, NoneAt}
use Rattle.faults.specs.declared.subject.SubjectFault.{SubjectFault}
use Rattle.faults.specs.declared.subject.SubjectFault.TheVariants.{Variables, Period, Points, Count, Code, Arithmetic}
use Rattle.fields.specs.Codes.{CodeFault}
use Rattle.subjects.specs.Variables.{VariablesFit}

-- there are 1 to 64 points
pub record PointsFit (count : ℕ) : Type 0 where
  pub some : 1 ≤ count
  pub few : count ≤ 64

-- no ground applies to points of m coordinates under a field of this order
pub record PointsAdmitted (order m count : ℕ) (coordinates : List ℕ) : Type 0 where
  pub variables : VariablesFit m
  pub points : PointsFit count
  pub full : length coordinates ≡ m * count
  pub codes : NoneAt (CodeFault order coordinates)

-- the first ground that applies
abbrev pub PointsRefused : ℕ → ℕ → ℕ → List ℕ → SubjectFault → Type 0
PointsRefused order m count coordinates Variables = VariablesFit m → ⊥
PointsRefused order m count coordinates (Period axis) = ⊥
PointsRefused order m count coordinates Points = VariablesFit m × (PointsFit count → ⊥)
PointsRefused order m count coordinates Count = VariablesFit m × PointsFit count × (length coordinates ≢ m * count)
PointsRefused order m count coordinates (Code place) = VariablesFit m × PointsFit count × (length coordinates ≡ m * count) × FirstAt (CodeFault order coordinates) place
PointsRefused order m count coordinates (Arithmetic fault) = ⊥
