use Rattle.std.proofs.Common.{arith}
use Rattle.std.specs.Iterator.Adapters.{enumerate_source, enumerate_count}
use Rattle.std.specs.Str.Iter.{lines_rest}
use Rattle.pattern_records.proofs.Lines.{one_more}
use Rattle.pattern_records.proofs.text.said.Goals as goal

pub returns-in-Err : goal.returns-in-Err
returns-in-Err c =
    let old = c.loop-read.invariant in
    let step = c.in-Some.ensures.steps.0.0 in (
      old.seen,
      lines_rest (enumerate_source c.loop-read.read-iterator),
      c.loop-read.pattern,
      c.in-Some.line.now,
      lines_rest (enumerate_source c.next.new.self),
      (c.new-pattern.result, c.new-pattern.ensures, old.before, old.taken),
      (step.0, step.2),
      c.in-Err.ensures,
      omega (arith, old.counted, c.in-Some.ensures.steps.1),
    )

pub loop-read-preserved : goal.loop-read-preserved
loop-read-preserved c =
    let step = c.in-Some.ensures.steps.0.0 in
    let more = one_more c.args.text.now (lines_rest (enumerate_source c.loop-read.read-iterator)) c.new-pattern.result c.loop-read.pattern (enumerate_count c.loop-read.read-iterator) c.loop-read.invariant
    c.in-Some.line.now (lines_rest (enumerate_source c.next.new.self)) c.take_line.new.pattern (step.0, step.2) c.in_default.ensures in
    rw c.in-Some.ensures.steps.2 more

pub returns : goal.returns
returns c =
    let old = c.loop-read.invariant in
    (old.seen, lines_rest (enumerate_source c.loop-read.read-iterator), (c.new-pattern.result, c.new-pattern.ensures, old.before, old.taken), c.in-None.ensures.steps.0.0.0)
