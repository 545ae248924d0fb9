use Rattle.std.proofs.Common.{◌+◌, false, sym, ap, ◌∙◌, subst, rules, vec_items}
use borrow.Author.Tests.{clash}
use Rattle.show_staircase.specs.Misreadings.{MisreadsBelow}
use Rattle.show_staircase.proofs.Lines.{Left, Sofar, none_read, monomial_more, score_more}
use Rattle.show_staircase.proofs.Misread.{tells, after_score, at_no_monomial, without_score, with_none, with_some}
use Rattle.show_staircase.proofs.reading.monomials.Goals as goal

pub loop-line-init : goal.loop-line-init
loop-line-init c texts left =
    subst (λ ls. Sofar texts c.into_iter-line-iterator.result ls false) (sym c.new-listed.ensures.items) (none_read texts c.into_iter-line-iterator.result
    (subst (λ rest. Left rest texts) (sym c.into_iter-line-iterator.ensures.into_iter_gives) left))

pub loop-line-preserved-then-is_counting : goal.loop-line-preserved-then-is_counting
loop-line-preserved-then-is_counting c texts left =
    score_more (subst (Sofar texts c.loop-line.line-iterator (vec_items c.loop-line.listed)) c.if-scored.false (c.loop-line.invariant texts left))
    c.next.new.self c.in-Some.line c.in-Some.ensures.steps ((c.is_counting.ensures (search rules)).0 c.if-is_counting.true)

pub loop-line-preserved : goal.loop-line-preserved
loop-line-preserved c texts left =
    subst (Sofar texts c.next.new.self (vec_items c.push.new.self)) (sym c.if-scored.false)
    (monomial_more (subst (Sofar texts c.loop-line.line-iterator (vec_items c.loop-line.listed)) c.if-scored.false (c.loop-line.invariant texts left))
    c.next.new.self c.in-Some.line c.in-Some.ensures.steps c.in-Ok.monomial c.in-Ok.ensures
    (vec_items c.push.new.self) c.in_ok-push-in-Ok.ensures.items)

pub returns-then-scored : goal.returns-then-scored
returns-then-scored c texts left =
    let so_far = subst (Sofar texts c.loop-line.line-iterator (vec_items c.loop-line.listed)) c.if-scored.true (c.loop-line.invariant texts left) in
    tells (MisreadsBelow texts) c.at.result c.into.result _ _ c.into.ensures
    (c.at.ensures.line ∙ ap (λ n. n + 3) (c.len.ensures ∙ c.loop-line.listed.ok.0)) c.at.ensures.ground
    (after_score so_far c.next.new.self c.in-Some.line c.in-Some.ensures.steps)

pub returns-in-Err : goal.returns-in-Err
returns-in-Err c texts left =
    let so_far = subst (Sofar texts c.loop-line.line-iterator (vec_items c.loop-line.listed)) c.if-scored.false (c.loop-line.invariant texts left) in
    let refused = c.in-Err.ensures in
    tells (MisreadsBelow texts) c.at-in-Err.result c.into-in-Err.result _ _ c.into-in-Err.ensures
    (c.at-in-Err.ensures.line ∙ ap (λ n. n + 2) (c.len-in-Err.ensures ∙ c.loop-line.listed.ok.0)) c.at-in-Err.ensures.ground
    (at_no_monomial so_far c.next.new.self c.in-Some.line c.in-Some.ensures.steps
    (λ score. clash (sym c.if-is_counting.false ∙ (c.is_counting.ensures (search rules)).1 score)) c.in-Err.ground refused.0 refused.1)

pub returns-then-not-scored : goal.returns-then-not-scored
returns-then-not-scored c texts left =
    let so_far = subst (Sofar texts c.loop-line.line-iterator (vec_items c.loop-line.listed)) c.if-not-scored.true (c.loop-line.invariant texts left) in
    tells (MisreadsBelow texts) c.at-then-not-scored.result c.into-then-not-scored.result _ _ c.into-then-not-scored.ensures
    (c.at-then-not-scored.ensures.line ∙ ap (λ n. n + 1) (c.len-then-not-scored.ensures ∙ c.loop-line.listed.ok.0)) c.at-then-not-scored.ensures.ground
    (without_score so_far c.next.new.self c.in-None.ensures.steps)

pub returns-then-is_empty : goal.returns-then-is_empty
returns-then-is_empty c texts left =
    let so_far = subst (Sofar texts c.loop-line.line-iterator (vec_items c.loop-line.listed)) c.if-not-scored.false (c.loop-line.invariant texts left) in
    tells (MisreadsBelow texts) c.at-then-is_empty.result c.into-then-is_empty.result _ _ c.into-then-is_empty.ensures
    c.at-then-is_empty.ensures.line c.at-then-is_empty.ensures.ground
    (with_none so_far c.next.new.self c.in-None.ensures.steps (search rules))

pub returns : goal.returns
returns c texts left =
    let so_far = subst (Sofar texts c.loop-line.line-iterator (vec_items c.loop-line.listed)) c.if-not-scored.false (c.loop-line.invariant texts left) in
    with_some so_far c.next.new.self c.in-None.ensures.steps (search rules)
