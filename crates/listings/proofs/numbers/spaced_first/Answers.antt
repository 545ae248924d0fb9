use Rattle.std.proofs.Common.{rules}
use Rattle.listings.specs.Listings.{after_space}
use Rattle.listings.proofs.numbers.spaced_first.Goals as goal

pub returns : goal.returns
returns c = let text = c.joined.ensures after_space (λ number made post. search rules) in search rules
