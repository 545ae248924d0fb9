-- A file that is taken is worked out as the pattern that it means.
use Rattle.std.proofs.Common.{take, string_bytes, ap, ◌∙◌, subst}
use mathlib.Core.Path.{subst⁻¹}
use Rattle.subjects.specs.ArrayGrounds.{ArrayAdmitted}
use Rattle.listings.specs.Listings.{refusal_line}
use Rattle.patterns.specs.Plans.{field_of, order_of}
use Rattle.patterns.specs.Reads.{pattern_of}
use Rattle.printouts.specs.Printouts.{pattern, ListsRow, Prints, refused, taken}
use Rattle.printouts.proofs.Admitting.{admitted}
use Rattle.printouts.proofs.Texts.{made_so}
use Rattle.printouts.proofs.printing.printout.Goals as goal

pub under_field-requires : goal.under_field-requires
under_field-requires c =
    let plan = c.in-Ok.plan in
    let codes = c.read.new.cells in
    let means = c.in-Ok.ensures.0 in
    subst⁻¹ (λ ns. ArrayAdmitted (field_of plan.field).order ns (take plan.width codes)) c.as_slice.ensures.value
    (admitted c.args.bytes.now (pattern_of plan codes) means)

pub returns-in-Ok : goal.returns-in-Ok
returns-in-Ok c =
    let plan = c.in-Ok.plan in
    let codes = c.read.new.cells in
    let means = c.in-Ok.ensures.0 in
    made_so string_bytes _ (Prints c.args.bytes.now) c.under_field.result c.under_field.ensures
    (λ text lists.
    taken (pattern_of plan codes) means text
    (subst (λ ns. ListsRow (pattern (field_of plan.field) (order_of plan.order) ns (take plan.width codes)) text) c.as_slice.ensures.value lists))

pub returns-in-Err : goal.returns-in-Err
returns-in-Err c =
    made_so string_bytes _ (Prints c.args.bytes.now) c.refusal_line.result c.refusal_line.ensures
    (λ text is. subst⁻¹ (Prints c.args.bytes.now) (is ∙ ap refusal_line c.from.ensures) (refused c.in-Err.fault c.in-Err.ensures.0))
