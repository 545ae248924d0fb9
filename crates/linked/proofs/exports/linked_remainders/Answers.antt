use mathlib.Core.Path.{subst⁻¹}
use Rattle.linked.specs.Answers.{LeavesEach}
use Rattle.linked.specs.Works.{Fields}
use Rattle.linked.proofs.exports.linked_remainders.Goals as goal

pub returns : goal.returns
returns c = subst⁻¹ (λ r. Fields c.args.kind c.args.size c.args.order c.args.periods.now c.args.cells.now (λ S A. LeavesEach S A c.args.polynomials.now) c.args.out.now r c.under_field.new.out) c.unwrap_or.ensures c.under_field.ensures
