-- Each term is that of its five numbers.
use Rattle.std.proofs.Common.{◌≡◌, ◌+◌, ◌*◌, rules, tests}
use Rattle.fields.proofs.MadeArrays.{made}
use Rattle.linked.specs.Numbers.{no_term, term_at}
use Rattle.linked.proofs.numbers.terms_from.Goals as goal

pub returns : goal.returns
returns c = (
  c.from_fn.ensures.items.long,
  λ j h. made _ (λ j y. y ≡ term_at c.args.numbers.now (c.args.start + 5 * j)) _ (λ j y q m. (search (rules, tests), search (rules, tests))) _ 64 c.from_fn.ensures.items j no_term h,
)
