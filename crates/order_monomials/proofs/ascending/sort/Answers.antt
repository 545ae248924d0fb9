use Rattle.std.proofs.Common.{rules}
use Rattle.std.proofs.lemmas.Fn.{always_returns_same}
use Rattle.order_monomials.proofs.Sorting.{before, before_lawful, ascending_from_sorted}
use Rattle.order_monomials.proofs.ascending.sort.Goals as goal

pub returns-clause-ascending : goal.returns-clause-ascending
returns-clause-ascending g c =
    let O = g.O.MonomialOrder.order c.args.under.now in
    let L = g.met.O.MonomialOrder.laws c.args.under.now in
    ascending_from_sorted O L c.sort_unstable_by.new.self
    (c.sort_unstable_by.ensures.sorted (before O) (before_lawful O L) (always_returns_same _ _ _ (λ a r f e. (search rules, search rules))))
