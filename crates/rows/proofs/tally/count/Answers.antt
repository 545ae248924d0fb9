-- Each turn counts one line more, and at the end all are counted.
use Rattle.std.proofs.Common.{length, ap, ◌∙◌, arith}
use Rattle.std.proofs.lemmas.List.{take_all}
use Rattle.rows.specs.Lines.{stairs_of, relations_of}
use Rattle.rows.proofs.Tallies.{stair_more, relation_more}
use Rattle.rows.proofs.Counts.{lines_counted, stairs_counted, lines_bounded}
use Rattle.rows.proofs.tally.count.Goals as goal
use Rattle.rows.proofs.tally.count.Goals.{in-Stair, in-Relation}

pub loop-line-preserved : goal.loop-line-preserved
loop-line-preserved c = elim c.match-line.branch [
  | in-Stair w ↦
      let m = stair_more c.args.lines.now c.loop-line.line-index c.loop-line-test.true w.in-Stair.is in
      (omega (arith, w.stairs-is, m.0), omega (arith, w.relations-is, m.1), omega (arith, w.stairs-is, w.relations-is))
  | in-Relation w ↦
      let m = relation_more c.args.lines.now c.loop-line.line-index c.loop-line-test.true w.in-Relation.is in
      (omega (arith, w.stairs-is, m.0), omega (arith, w.relations-is, m.1), omega (arith, w.stairs-is, w.relations-is))
]

pub returns : goal.returns
returns c =
    let lines = c.args.lines.now in
    let all = take_all c.loop-line.line-index lines c.loop-line-test.false in
    record {
      stairs = c.loop-line.invariant.0 ∙ ap (λ x. length (stairs_of x)) all;
      relations = c.loop-line.invariant.1 ∙ ap (λ x. length (relations_of x)) all;
      bounds = λ U K H. record { each = lines_counted lines; stairs = stairs_counted U K lines H; bounded = lines_bounded U K lines H };
    }
