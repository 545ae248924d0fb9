use Rattle.monomials.specs.Monomials.{mono}
use Rattle.subjects.proofs.Walk.{Walked}
use Rattle.subjects.proofs.periodic.PeriodicArray.behind.Given as goal

abbrev pub invariant-loop-axis : goal.invariant-loop-axis
invariant-loop-axis l = Walked l.self.periods.now (mono l.monomial.exponents) l.position l.axis l.place l.scale l.rest
