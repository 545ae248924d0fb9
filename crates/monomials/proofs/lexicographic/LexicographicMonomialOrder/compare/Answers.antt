use Rattle.std.proofs.Common.{ap}
use Rattle.std.proofs.lemmas.Bool.Decides.{Decides-at}
use Rattle.monomials.specs.Monomials.{mono}
use Rattle.monomials.proofs.Leftmost.{leftmost_decides}
use Rattle.monomials.proofs.lexicographic.LexicographicMonomialOrder.compare.Goals as goal
use Rattle.std.specs.Ordering.{is_lt}

pub returns : goal.returns
returns c = record {
  meaning = c.compare_exponents.ensures;
  leftmost = Decides-at _ _ (ap is_lt c.compare_exponents.ensures) (leftmost_decides (mono c.args.a.now.exponents) (mono c.args.b.now.exponents));
}
