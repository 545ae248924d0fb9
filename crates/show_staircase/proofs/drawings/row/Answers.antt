use Rattle.std.proofs.Common.{rules}
use Rattle.show_staircase.specs.Drawings.{cell_text}
use Rattle.show_staircase.proofs.drawings.row.Goals as goal

pub returns : goal.returns
returns c = let cells = c.in_ok-cells.ensures (cell_text c.args.listed.now c.args.v) (λ u below made post. search rules) in search rules
