use Rattle.rows.proofs.theorems.one_continuation.Goals as goal
use Rattle.rows.proofs.Cells.{one_continuation, own_continues, own_only, own_cells}

pub returns : goal.returns
returns c = record {
  codes = one_continuation;
  positions = λ U K row R k l codes own. (own_continues U K row R k l codes own, own_only U K row R k l codes own);
  cells = own_cells;
}
