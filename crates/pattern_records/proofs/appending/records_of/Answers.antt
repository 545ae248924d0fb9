use Rattle.std.proofs.Common.{arith}
use Rattle.pattern_records.proofs.Records.{appended_more}
use Rattle.pattern_records.proofs.appending.records_of.Goals as goal

pub loop-entry-preserved : goal.loop-entry-preserved
loop-entry-preserved c =
    appended_more c.loop-entry.bytes.items c.append.new.bytes.items c.args.entries.now c.loop-entry.entry-index _ (omega arith) c.loop-entry.invariant c.in_ok-append.ensures
