-- The chain answers whether each exponent is no larger than its variable may have.
use Rattle.std.proofs.Common.{◌≡◌, MatchBool, subst, sym, arith, rules, tests}
use Rattle.std.proofs.lemmas.Iterator.{YieldsList-from_slice}
use Rattle.std.proofs.lemmas.Iterator.Consumers.{YieldsList-from_enumerate}
use Rattle.std.proofs.lemmas.Iterator.Search.{all_from_yields_List}
use Rattle.std.specs.List.{list_all, enumerate_from}
use Rattle.monomials.specs.Monomials.{mono}
use Rattle.polynomials.specs.Terms.{Admitted}
use Rattle.polynomials.proofs.Terms.{is_small, admitted_cases}
use Rattle.polynomials.proofs.term_faults.is_admitted.Goals as goal

pub returns : goal.returns
returns c =
    let m = c.args.variables in
    let es = c.args.monomial.now.exponents in
    let value : c.all.result ≡ list_all (is_small m) (enumerate_from 0 es) =
    all_from_yields_List (is_small m) _ _ c.all.result c.all.ensures.ran
    (YieldsList-from_enumerate (YieldsList-from_slice es (search rules)) (search rules)) (λ x b q k. search (rules, tests)) in
    subst (λ r. MatchBool r (Admitted m (mono es)) (Admitted m (mono es) → ⊥)) (sym value) (admitted_cases m es (omega arith))
