-- As many cases were tried as names were passed.
use Rattle.std.proofs.Common.{◌≡◌}
use Rattle.pattern_vectors.proofs.tried.Given as goal

abbrev pub invariant-loop-name : goal.invariant-loop-name
invariant-loop-name l = l.tally.cases ≡ l.name-index
