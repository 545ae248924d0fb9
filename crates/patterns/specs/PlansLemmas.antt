-- The orders of plans are lawful.
use Rattle.monomials.specs.Orders.{OrderLaws}
use Rattle.monomials.specs.Rules.{lexicographic}
use Rattle.monomials.specs.RulesLemmas.{lexicographic_laws, graded_laws, weighted_laws}
use Rattle.patterns.specs.declared.plan.OrderKind.{OrderKind}
use Rattle.patterns.specs.declared.plan.OrderKind.TheVariants.{Lexicographic, Graded, Weighted}
use Rattle.patterns.specs.Plans.{order_of}

pub order_laws : (o : OrderKind) → OrderLaws (order_of o)
order_laws Lexicographic = lexicographic_laws
order_laws Graded = graded_laws
order_laws (Weighted weights) = weighted_laws weights.weights lexicographic lexicographic_laws
