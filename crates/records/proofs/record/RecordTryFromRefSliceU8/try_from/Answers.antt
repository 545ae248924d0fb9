-- Each number is that of its two bytes.
use Rattle.std.proofs.Common.{◌≡◌, [], ◌∷◌, get_or, arith, rules}
use Rattle.records.specs.Layout.{number_at}
use Rattle.records.proofs.Elements.{are_five}
use Rattle.records.proofs.record.RecordTryFromRefSliceU8.try_from.Goals as goal

pub returns-in-len2-up : goal.returns-in-len2-up
returns-in-len2-up c =
    let at = c.from_fn.ensures.items.at in
    let bytes = c.args.bytes.now in
    let numbers : c.from_fn.result ≡ number_at bytes 2 ∷ number_at bytes 4 ∷ number_at bytes 6 ∷ number_at bytes 8 ∷ number_at bytes 10 ∷ [] =
    are_five c.from_fn.result _ _ _ _ _ c.from_fn.ensures.items.long
    (search (rules, (at 0 0 (omega arith)).2))
    (search (rules, (at 1 0 (omega arith)).2))
    (search (rules, (at 2 0 (omega arith)).2))
    (search (rules, (at 3 0 (omega arith)).2))
    (search (rules, (at 4 0 (omega arith)).2)) in
    (search rules, λ i. record { kind = get_or bytes 0 0; subkind = get_or bytes 1 0; numbers = numbers i })
