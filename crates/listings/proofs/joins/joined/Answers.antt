use Rattle.std.proofs.Common.{◌≡◌, Ok, string_bytes, refl}
use Rattle.listings.proofs.Turns.{joined_next, joined_all}
use Rattle.listings.proofs.joins.joined.Goals as goal

pub loop-element-preserved : goal.loop-element-preserved
loop-element-preserved g c = λ spelled each.
    let element = c.element-item.result in
    let before = c.loop-element.invariant spelled each in
    let piece : string_bytes c.in_ok-text_of.field-0 ≡ spelled element =
    each element (Ok c.in_ok-text_of.field-0) (record { shown = _; shows = refl; says = record { met = c.in_ok-text_of.ensures } }) in
    let next = joined_next spelled c.args.elements.now c.loop-element.element-index element c.loop-element-test.true in
    let same = c.element-item.is in
    let pushed = c.in_ok-push_str.ensures.bytes in
    let read = c.as_str.ensures.value in
    cc

pub returns : goal.returns
returns g c = λ spelled each.
    let before = c.loop-element.invariant spelled each in
    let all = joined_all spelled c.args.elements.now c.loop-element.element-index c.loop-element-test.false in
    cc
