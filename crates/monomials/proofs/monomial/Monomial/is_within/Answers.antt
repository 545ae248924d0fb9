-- The chain answers whether the exponents past the first ones are all zero.
use Rattle.std.proofs.Common.{◌≡◌, ◌==◌, ◌∙◌, ap, drop, arith, rules, tests}
use Rattle.std.proofs.lemmas.Bool.Decides.{Decides-at}
use Rattle.std.proofs.lemmas.Iterator.{YieldsList-from_slice}
use Rattle.std.proofs.lemmas.Iterator.Adapters.{YieldsList-from_skip}
use Rattle.std.proofs.lemmas.Iterator.Search.{all_from_yields_List}
use Rattle.std.specs.List.{list_all}
use Rattle.monomials.proofs.Exponents.{within_decides}
use Rattle.monomials.proofs.monomial.Monomial.is_within.Goals as goal

pub returns : goal.returns
returns c =
    let es = c.args.self.now.exponents in
    let value : c.all.result ≡ list_all (λ e. e == 0) (drop c.args.variables es) = all_from_yields_List (λ e. e == 0) _ _ c.all.result c.all.ensures.ran (YieldsList-from_skip c.args.variables (YieldsList-from_slice es (ap (λ s. s.rest.now) c.skip.ensures.source ∙ c.iter.ensures.rest)) c.skip.ensures.count) (λ x b q k. search (rules, tests)) in
    Decides-at _ _ value (within_decides c.args.variables es (omega arith))
