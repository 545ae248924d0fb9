use Rattle.std.proofs.Common.{vec_items}
use Rattle.std.specs.Str.Iter.{split_whitespace_rest}
use Rattle.pattern_records.proofs.Numbers.{one_more}
use Rattle.pattern_records.proofs.line.numbers.Goals as goal

pub loop-word-preserved : goal.loop-word-preserved
loop-word-preserved c =
    one_more (split_whitespace_rest c.into_iter-word-iterator.result) (vec_items c.loop-word.numbers) (split_whitespace_rest c.loop-word.word-iterator)
    c.in-Some.word.now (split_whitespace_rest c.next.new.self) c.in_ok-number.field-0 (vec_items c.push.new.self)
    c.loop-word.invariant c.in-Some.ensures.steps c.in_ok-number.ensures c.in_ok-push.ensures.items
