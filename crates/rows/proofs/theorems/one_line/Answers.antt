use Rattle.std.proofs.Common.{sym, ◌∙◌}
use Rattle.rows.proofs.theorems.one_line.Goals as goal
use Rattle.rows.proofs.Making.{line_for}
use Rattle.rows.proofs.Unique.{same_line}

pub returns : goal.returns
returns c = λ S M A L before W a. let (l, e, s) = line_for S M A L before W a in
    record { line = l; own = e; stands = s; only = λ m g t. same_line S M A L before W m l t s (g ∙ sym e) }
