use Rattle.std.proofs.Common.{rules}
use Rattle.show_staircase.specs.Drawings.{tens_text}
use Rattle.show_staircase.proofs.labels.tens_line.Goals as goal

pub returns : goal.returns
returns c = let line = c.line_below.ensures tens_text (λ column below made post. search rules) in search rules
