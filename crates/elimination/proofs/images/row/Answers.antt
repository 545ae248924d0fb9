-- Each code is what the closure answered at its position.
use Rattle.std.proofs.Common.{◌≡◌, ℕ, ◌<◌, ◌≤◌, inl, inr, arith, rules, tests}
use Rattle.std.proofs.lemmas.Bool.{cases_lt}
use Rattle.std.proofs.lemmas.List.{get_or_past}
use Rattle.fields.proofs.MadeArrays.{made}
use Rattle.elimination.proofs.images.row.Goals as goal

pub returns-clause-inside : goal.returns-clause-inside
returns-clause-inside g c k h l = made _ (λ i y. i < c.args.width → (goal.F-post g) c.args.code i y) _ (λ i y q m. (search (rules, tests), search (rules, tests))) _ 64 c.from_fn.ensures.items k 0 l h

pub returns-clause-past : goal.returns-clause-past
returns-clause-past g c k h = elim (cases_lt k 64) [
  | inl l ↦ made _ (λ i y. c.args.width ≤ i → y ≡ 0) _ (λ i y q m. (search (rules, tests), search (rules, tests))) _ 64 c.from_fn.ensures.items k 0 l h
  | inr m ↦ get_or_past c.from_fn.result k 0 (omega (arith, c.from_fn.ensures.items.long))
]
