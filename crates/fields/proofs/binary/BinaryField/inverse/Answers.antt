-- One turn takes one more square; the squares together are the inverse.
use Rattle.std.proofs.Common.{◌≡◌, suc, ◌+◌, ◌-◌, ◌%◌, ◌^◌, ap, ◌∙◌, ap₂, arith}
use Rattle.fields.specs.Binaries.{binary}
use Rattle.fields.specs.BinariesLemmas.{some_degree}
use Rattle.fields.specs.PowersLemmas.{squares, power_below, power_inverse}
use Rattle.fields.proofs.binary.BinaryField.inverse.Goals as goal

pub loop-preserved : goal.loop-preserved
loop-preserved c =
    let A = binary c.args.self.now.degree in
    let a = c.args.a % 2 ^ c.args.self.now.degree in
    let (e, s) = c.loop.invariant in
    let one_more : (c.loop.counter + 1) - 1 ≡ suc (c.loop.counter - 1) = omega arith in
    let next = c.product-square.ensures ∙ ap₂ A.product e e in (
      rw one_more next,
      rw one_more (c.product-inverse.ensures ∙ ap₂ A.product s next),
    )

pub returns : goal.returns
returns c =
    let f = c.args.self.now in
    let A = binary f.degree in
    let done : c.loop.counter ≡ f.degree = omega (arith, some_degree f.degree f.listed) in
    let result = c.loop.invariant.1 ∙ ap (λ n. squares A (n - 1) (c.args.a % 2 ^ f.degree)) done in (
      ap (A.product c.args.a) result ∙ power_inverse f.degree f.listed c.args.a (λ z. c.if-square-eq0.false (c.code-square.ensures ∙ z)),
      rw result (power_below f.degree f.listed c.args.a),
    )
