use Rattle.rows.proofs.theorems.kept_lines.Goals as goal
use Rattle.rows.proofs.Keeping.{kept_row}
use Rattle.rows.proofs.KeptRows.{row_kept, row_finished}
use Rattle.rows.proofs.Firsts.{first_of_row}
use Rattle.rows.proofs.Existence.{next_in_row}
use Rattle.rows.proofs.Choosing.{cases_finished}

pub returns : goal.returns
returns c = record {
  first = first_of_row;
  all = λ U K lines. ((λ h. kept_row U K lines h.0 h.1), λ R. (row_kept U K lines R, row_finished U K lines R));
  next = next_in_row;
  decided = cases_finished;
}
