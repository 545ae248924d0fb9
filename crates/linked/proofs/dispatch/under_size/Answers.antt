-- The field is the one that the size names.
use Rattle.std.proofs.Common.{refl, subst, unwrap_or}
use Rattle.fields.specs.Arithmetic.{Arithmetic}
use Rattle.linked.specs.Works.{Orders}
use Rattle.linked.proofs.dispatch.under_size.Goals as goal

pub returns-in-Ok : goal.returns-in-Ok
returns-in-Ok g c =
    let pattern = c.args.pattern.now in
    let Under : Arithmetic → Type 0 = λ A. Orders A pattern.order pattern.periods.now pattern.cells.now (g.Q.Question.answers c.args.question.now) c.args.out.now (unwrap_or c.under_order.result 0) c.under_order.new.out in
    let said = c.in-Ok.ensures.made in
    record { by_number = λ _. subst Under said.0 c.under_order.ensures; no_number = λ no. absurd (no said.1) }

pub returns-in-Err : goal.returns-in-Err
returns-in-Err g c = record { by_number = λ listed. absurd (c.in-Err.ensures.made.1 listed); no_number = λ _. (refl, refl) }
