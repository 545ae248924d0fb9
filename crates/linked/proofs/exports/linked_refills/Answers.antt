use mathlib.Core.Path.{subst⁻¹}
use Rattle.linked.specs.Answers.{ContinuesEach}
use Rattle.linked.specs.Works.{Fields}
use Rattle.linked.proofs.exports.linked_refills.Goals as goal

pub returns : goal.returns
returns c = subst⁻¹ (λ r. Fields c.args.kind c.args.size c.args.order c.args.periods.now c.args.cells.now (λ _ A. ContinuesEach A c.args.codes.now c.args.exponents.now) c.args.out.now r c.under_field.new.out) c.unwrap_or.ensures c.under_field.ensures
