-- The lines so far were taken up.
use Rattle.std.specs.Iterator.Adapters.{enumerate_source, enumerate_count}
use Rattle.std.specs.Str.Iter.{lines_rest}
use Rattle.pattern_records.proofs.Lines.{Sofar}
use Rattle.pattern_records.proofs.text.said.Given as goal

abbrev pub invariant-loop-read : goal.invariant-loop-read
invariant-loop-read l = Sofar l.text (lines_rest (enumerate_source l.read-iterator)) l.initial.pattern l.pattern (enumerate_count l.read-iterator)
