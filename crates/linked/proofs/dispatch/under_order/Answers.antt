-- One order is named, and no other.
use Rattle.std.proofs.Common.{arith}
use Rattle.linked.proofs.dispatch.under_order.Goals as goal

pub returns-in-0 : goal.returns-in-0
returns-in-0 g c =
    record { by_lexicographic = λ _. c.work_out.ensures; by_graded = λ e. absurd (omega (arith, e, c.in-0.is)); by_none = λ h. absurd (omega (arith, h, c.in-0.is)) }

pub returns-in-1 : goal.returns-in-1
returns-in-1 g c =
    record { by_lexicographic = λ e. absurd (omega (arith, e, c.in-1.is)); by_graded = λ _. c.work_out-in-1.ensures; by_none = λ h. absurd (omega (arith, h, c.in-1.is)) }
