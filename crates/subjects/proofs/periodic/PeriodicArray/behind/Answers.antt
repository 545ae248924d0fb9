-- The bounds of the walk, at the period of this turn.
use Rattle.std.proofs.Common.{◌+◌, ◌*◌, ◌/◌, ◌%◌, ◌<◌, get_or, sym, ◌∙◌, mod-lt, arith}
use mathlib.Core.Path.{subst⁻¹}
use Rattle.monomials.specs.Monomials.{mono}
use Rattle.monomials.specs.MonomialsLemmas.{exponent_mono}
use Rattle.subjects.proofs.Walk.{Walked, Bounds, bounds, walked, stop, behind_all}
use Rattle.subjects.proofs.periodic.PeriodicArray.behind.Goals as goal

pub moved_along-requires : goal.moved_along-requires
moved_along-requires c =
    let s = c.args.self.now in
    let b = bounds s.periods.now (mono c.args.monomial.now.exponents) c.args.position c.loop-axis.axis c.loop-axis.place c.loop-axis.scale c.loop-axis.rest
    s.inhabited c.loop-axis-test.true c.loop-axis.invariant s.narrow c.from-period.result c.from-period.ensures in
    (b.positive, b.small)

-- at the period of this turn
here : (c : goal.After-moved_along) → Bounds c.from-period.result c.loop-axis.place c.loop-axis.scale
here c =
    let s = c.args.self.now in
    bounds s.periods.now (mono c.args.monomial.now.exponents) c.args.position c.loop-axis.axis c.loop-axis.place c.loop-axis.scale c.loop-axis.rest
    s.inhabited c.loop-axis-test.true c.loop-axis.invariant s.narrow c.from-period.result c.from-period.ensures

-- the coordinate moved along the axis is below the period
moved_below : (c : goal.After-moved_along) → c.moved_along.result < c.from-period.result
moved_below c =
    subst⁻¹ (λ x. x < c.from-period.result) c.moved_along.ensures
    (mod-lt (c.loop-axis.rest % c.from-period.result + get_or c.args.monomial.now.exponents c.loop-axis.axis 0) (here c).positive)

pub overflow_mul-place : goal.overflow_mul-place
overflow_mul-place c = omega (arith, (here c).placed c.moved_along.result (moved_below c))

pub overflow_add-place : goal.overflow_add-place
overflow_add-place c = omega (arith, (here c).placed c.moved_along.result (moved_below c))

pub overflow_mul-scale : goal.overflow_mul-scale
overflow_mul-scale c = omega (arith, (here c).scaled)

pub nonzero_div-rest : goal.nonzero_div-rest
nonzero_div-rest c = (here c).positive

pub loop-axis-preserved : goal.loop-axis-preserved
loop-axis-preserved c =
    let s = c.args.self.now in
    let es = c.args.monomial.now.exponents in
    let v = c.loop-axis.axis in
    let place = c.loop-axis.place in
    let scale = c.loop-axis.scale in
    let rest = c.loop-axis.rest in
    let n = c.from-period.result in
    subst⁻¹ (λ x. Walked s.periods.now (mono es) c.args.position (v + 1) (place + scale * x) (scale * n) (rest / n)) c.moved_along.ensures
    (walked s.periods.now (mono es) c.args.position v place scale rest s.inhabited c.loop-axis-test.true c.loop-axis.invariant n (get_or es v 0) c.from-period.ensures
    (sym (exponent_mono es v (omega (arith, s.few)))))

pub returns : goal.returns
returns c =
    let s = c.args.self.now in
    let ns = s.periods.now in
    let a = mono c.args.monomial.now.exponents in
    let k = c.args.position in
    let (value, below) = stop ns a k c.loop-axis.axis c.loop-axis.place c.loop-axis.scale c.loop-axis.rest c.loop-axis-test.false c.loop-axis.invariant in
    record { is = value ∙ behind_all ns s.few a k; inside = omega (arith, below, s.full) }
