-- Each turn sees one product more, or one line more; at the end all are seen.
use Rattle.std.proofs.Common.{◌≡◌, ◌+◌, ◌<◌, length, subst, arith, true-eqb, false-eqb}
use mathlib.Core.Path.{subst⁻¹}
use Rattle.rows.specs.Lines.{line}
use Rattle.rows.proofs.Verdicts.{tells_stair, tells_relation}
use Rattle.worksheet.specs.Selections.{Seen, Chosen}
use Rattle.worksheet.proofs.Selecting.{one_next, product_passed, product_taken, stair_done, relation_passed, all_seen}
use Rattle.worksheet.proofs.selection.next.Goals as goal

pub returns-then-is_empty : goal.returns-then-is_empty
returns-then-is_empty g c =
    let O = g.O.MonomialOrder.order c.args.order.now in
    one_next c.args.variables c.args.lines.now O (g.met.O.MonomialOrder.laws c.args.order.now) c.one.result
    (true-eqb _ _ c.if-is_empty.ensures) c.one.ensures

pub loop-variable-preserved : goal.loop-variable-preserved
loop-variable-preserved g c =
    let O = g.O.MonomialOrder.order c.args.order.now in
    let L = g.met.O.MonomialOrder.laws c.args.order.now in
    let lines = c.args.lines.now in
    let m = c.args.variables in
    let i = c.loop-line.line-index in
    let v = c.loop-variable.variable in
    elim c.match-open_product.branch [
      | goal.in-Some w ↦
          subst⁻¹ (Chosen O (Seen m lines i (v + 1))) w.chosen-is
          (product_taken m lines O L i v c.loop-variable.chosen w.in-Some.product w.earlier.result (tells_stair (line lines i) c.in-Stair.is)
          w.in-Some.ensures w.earlier.ensures c.loop-variable.invariant)
      | goal.in_default-open_product w ↦
          subst⁻¹ (Chosen O (Seen m lines i (v + 1))) w.chosen-is
          (product_passed m lines O L i v c.loop-variable.chosen w.in_default-open_product.ensures c.loop-variable.invariant)
    ]

pub loop-line-preserved : goal.loop-line-preserved
loop-line-preserved g c =
    let O = g.O.MonomialOrder.order c.args.order.now in
    let L = g.met.O.MonomialOrder.laws c.args.order.now in
    let lines = c.args.lines.now in
    let m = c.args.variables in
    let i = c.loop-line.line-index in
    elim c.match-line.branch [
      | goal.in-Stair+else-loop-variable-test w ↦
          let e : w.loop-variable.variable ≡ m = omega arith in
          subst⁻¹ (Chosen O (Seen m lines (i + 1) 0)) w.chosen-is
          (stair_done m lines O L i w.loop-variable.chosen (subst (λ v. Chosen O (Seen m lines i v) w.loop-variable.chosen) e w.loop-variable.invariant))
      | goal.in_default w ↦
          subst⁻¹ (Chosen O (Seen m lines (i + 1) 0)) w.chosen-is
          (relation_passed m lines O L i c.loop-line.chosen (tells_relation (line lines i) w.in_default.is) c.loop-line.invariant)
    ]

pub returns : goal.returns
returns g c =
    let O = g.O.MonomialOrder.order c.args.order.now in
    let lines = c.args.lines.now in
    let some : 0 < length lines = let d = false-eqb (length lines) 0 c.if-is_empty.ensures in omega arith in
    let e : c.loop-line.line-index ≡ length lines = omega arith in
    all_seen c.args.variables lines O (g.met.O.MonomialOrder.laws c.args.order.now) some c.loop-line.line-index e
    c.loop-line.chosen c.loop-line.invariant
