-- One kind is named, and no other.
use Rattle.std.proofs.Common.{arith}
use Rattle.linked.proofs.dispatch.under_field.Goals as goal

pub returns-in-0 : goal.returns-in-0
returns-in-0 g c =
    record { by_modulus = λ _. c.under_size.ensures; by_degree = λ e. absurd (omega (arith, e, c.in-0.is)); by_none = λ h. absurd (omega (arith, h, c.in-0.is)) }

pub returns-in-1 : goal.returns-in-1
returns-in-1 g c =
    record { by_modulus = λ e. absurd (omega (arith, e, c.in-1.is)); by_degree = λ _. c.under_size-in-1.ensures; by_none = λ h. absurd (omega (arith, h, c.in-1.is)) }
