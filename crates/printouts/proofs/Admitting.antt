-- The array of a file that is taken is admitted.
use Rattle.std.proofs.Common.{ℕ, List}
use mathlib.Core.Path.{subst⁻¹}
use Rattle.subjects.specs.ArrayGrounds.{PeriodsAdmitted, ArrayAdmitted}
use Rattle.patterns.specs.Reads.{Pattern, FileMeans}

pub admitted : (bytes : List ℕ) (p : Pattern) → FileMeans bytes p → ArrayAdmitted p.field.order p.periods p.cells
admitted bytes p means =
    record { periods = subst⁻¹ PeriodsAdmitted means.periods means.laid_out.periods; count = means.cells.given.count; codes = means.cells.below }
