-- The product of the powers so far.
use Rattle.std.proofs.Common.{◌≡◌}
use Rattle.subjects.proofs.Values.{value_upto}
use Rattle.subjects.proofs.points.monomial_value.Given as goal

abbrev pub invariant-loop-variable : goal.invariant-loop-variable
invariant-loop-variable g l = l.value ≡ value_upto (g.F.Field.arithmetic l.field) l.point l.monomial.exponents l.variable
