-- A listed number names the field, and under it either the array is refused, or it is made and the check is of it.
use Rattle.std.proofs.Common.{subst, subst₂, Err}
use Rattle.std.proofs.lemmas.Result.{err_from_is_err_and}
use Rattle.faults.specs.declared.worksheet.WorksheetFault.TheVariants.{Subject}
use Rattle.polynomials.specs.Arrays.{array_meaning}
use Rattle.subjects.specs.Checks.{Checked}
use Rattle.check_relation.specs.Examined.{PatternExamined, refused, checked, unlisted, listed}
use Rattle.check_relation.proofs.examination.examine_pattern.Goals as goal

pub returns-in_err-field : goal.returns-in_err-field
returns-in_err-field g c =
    let p = err_from_is_err_and c.from_residual.result c.from_residual.ensures.1 in
    rw (p.1, p.2, c.in_err-field.ensures.0) (unlisted c.in_err-field.ensures.1)

pub returns-in_err-array : goal.returns-in_err-array
returns-in_err-array g c =
    let field = c.in_ok-field.ensures in
    let p = err_from_is_err_and c.from_residual-in_err-array.result c.from_residual-in_err-array.ensures.1 in
    let outcome = refused c.in_err-array.ensures in
    rw (p.1, p.2)
    (listed field.1 (subst (λ A. PatternExamined A c.args.periods.now c.args.cells.now c.args.terms.now (Err (Subject c.in_err-array.field-0.0))) field.0 outcome))

pub returns : goal.returns
returns g c =
    let field = c.in_ok-field.ensures in
    let A = g.F.Field.arithmetic c.in_ok-field.field in
    let array = c.in_ok-array.ensures in
    let outcome = checked array.0 (subst₂ (λ x y. Checked (array_meaning x y) A c.args.terms.now c.check.result) array.1 array.2 c.check.ensures) in
    listed field.1 (subst (λ A. PatternExamined A c.args.periods.now c.args.cells.now c.args.terms.now c.check.result) field.0 outcome)
