-- The words so far are the numbers so far.
use Rattle.std.proofs.Common.{vec_items}
use Rattle.std.specs.Str.Iter.{split_whitespace_rest}
use Rattle.pattern_records.specs.Reading.{ReadsTo}
use Rattle.pattern_records.proofs.line.numbers.Given as goal

abbrev pub invariant-loop-word : goal.invariant-loop-word
invariant-loop-word l = ReadsTo (split_whitespace_rest l.initial.word-iterator) (vec_items l.numbers) (split_whitespace_rest l.word-iterator)
