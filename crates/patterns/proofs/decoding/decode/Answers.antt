-- One record more says an entry, or it says nothing and is the first that does.
use Rattle.std.proofs.Common.{arith, subst, rules}
use Rattle.std.proofs.lemmas.Result.{err_from_is_err_and}
use Rattle.records.specs.Format.{Says}
use Rattle.patterns.specs.Files.{entry}
use Rattle.patterns.proofs.Chunks.{record_of_chunk, said_more}
use Rattle.patterns.proofs.decoding.decode.Goals as goal

pub returns-in_err-entry_of : goal.returns-in_err-entry_of
returns-in_err-entry_of c =
    let p = err_from_is_err_and c.from_residual.result c.from_residual.ensures.1 in
    let n = c.loop-number.number in
    let refused = c.in_err-entry_of.ensures in
    let same = record_of_chunk c.args.bytes.now c.as_chunks.result.0.now c.as_chunks.ensures.front n (omega arith) in
    rw (p.1, p.2, refused.0) (
      search rules,
      ((omega arith, λ e says. refused.1 e (rw same says)), λ j h fault. fault.1 (entry c.loop-number.entries.items j) (c.loop-number.invariant.said j h)),
    )

pub loop-number-preserved : goal.loop-number-preserved
loop-number-preserved c =
    let bytes = c.args.bytes.now in
    let es = c.loop-number.entries.items in
    let n = c.loop-number.number in
    let old = c.loop-number.invariant in
    let same = record_of_chunk bytes c.as_chunks.result.0.now c.as_chunks.ensures.front n (omega arith) in
    record {
      counted = omega (arith, c.push.ensures.len, old.counted);
      said = said_more bytes es c.push.new.self.items n c.in_ok-entry_of.field-0 old.counted c.push.ensures.items old.said (subst (λ r. Says r c.in_ok-entry_of.field-0) same c.in_ok-entry_of.ensures);
    }
