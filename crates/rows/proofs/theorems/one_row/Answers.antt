use Rattle.rows.proofs.theorems.one_row.Goals as goal
use Rattle.rows.proofs.Existence.{row_exists}
use Rattle.rows.proofs.Firsts.{row_only}
use Rattle.rows.proofs.TwoBases.{same_basis}

pub returns : goal.returns
returns c = record {
  row = λ U K. let (row, R) = row_exists U K in record { row = row; is_row = R; only = λ other T. row_only U K row other R T };
  basis = same_basis;
}
