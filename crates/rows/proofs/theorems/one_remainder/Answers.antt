use Rattle.rows.proofs.theorems.one_remainder.Goals as goal
use Rattle.rows.proofs.Remaining.{one_remainder}

pub returns : goal.returns
returns c = one_remainder
