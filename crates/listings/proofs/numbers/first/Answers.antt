use Rattle.std.proofs.Common.{rules}
use Rattle.std.proofs.lemmas.List.{take_all}
use Rattle.listings.proofs.numbers.first.Goals as goal

pub returns : goal.returns
returns c = search (rules, take_all)
