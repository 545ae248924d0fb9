-- Each turn takes one power more; after the last coordinate the product is the value.
use Rattle.std.proofs.Common.{◌≡◌, ◌+◌, ◌-◌, ◌∙◌, add-one, arith}
use Rattle.subjects.proofs.Values.{all_factors}
use Rattle.subjects.proofs.points.monomial_value.Goals as goal

pub loop-variable-preserved : goal.loop-variable-preserved
loop-variable-preserved g c = rw add-one (cc)

pub returns : goal.returns
returns g c =
    let A = g.F.Field.arithmetic c.args.field.now in
    let L = (g.met.F.Field.laws c.args.field.now).ring in
    let n = c.loop-variable.variable in
    let four : (4 - n) + n ≡ 4 = omega (arith, c.requires) in
    c.loop-variable.invariant ∙ all_factors A L c.args.point.now c.args.monomial.now.exponents (4 - n) n four (omega arith)
