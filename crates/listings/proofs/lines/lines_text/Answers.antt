use Rattle.std.proofs.Common.{rules}
use Rattle.listings.specs.Listings.{line_text}
use Rattle.listings.proofs.lines.lines_text.Goals as goal

pub returns : goal.returns
returns c = c.joined.ensures (line_text c.args.variables c.args.stairs) (λ line made post. search rules)
