-- A listed number names the field, and under it either the points are refused, or the set is made and the check is of it.
use Rattle.std.proofs.Common.{subst, Err}
use mathlib.Core.Path.{subst₃}
use Rattle.std.proofs.lemmas.Result.{err_from_is_err_and}
use Rattle.faults.specs.declared.worksheet.WorksheetFault.TheVariants.{Subject}
use Rattle.polynomials.specs.Points.{points_meaning}
use Rattle.subjects.specs.Checks.{Checked}
use Rattle.check_relation.specs.Examined.{PointsExamined, refused, checked, unlisted, listed}
use Rattle.check_relation.proofs.examination.examine_points.Goals as goal

pub returns-in_err-field : goal.returns-in_err-field
returns-in_err-field g c =
    let p = err_from_is_err_and c.from_residual.result c.from_residual.ensures.1 in
    rw (p.1, p.2, c.in_err-field.ensures.0) (unlisted c.in_err-field.ensures.1)

pub returns-in_err-set : goal.returns-in_err-set
returns-in_err-set g c =
    let field = c.in_ok-field.ensures in
    let p = err_from_is_err_and c.from_residual-in_err-set.result c.from_residual-in_err-set.ensures.1 in
    let outcome = refused c.in_err-set.ensures in
    rw (p.1, p.2)
    (listed field.1 (subst (λ A. PointsExamined A c.args.variables c.args.points c.args.coordinates.now c.args.terms.now (Err (Subject c.in_err-set.field-0.0))) field.0 outcome))

pub returns : goal.returns
returns g c =
    let field = c.in_ok-field.ensures in
    let A = g.F.Field.arithmetic c.in_ok-field.field in
    let set = c.in_ok-set.ensures in
    let outcome = checked set.0 (subst₃ (λ x y z. Checked (points_meaning x y z) A c.args.terms.now c.check.result) set.1 set.2 set.3 c.check.ensures) in
    listed field.1 (subst (λ A. PointsExamined A c.args.variables c.args.points c.args.coordinates.now c.args.terms.now c.check.result) field.0 outcome)
