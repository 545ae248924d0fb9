-- The stages one after another: the first that refuses refuses the file.
use Rattle.std.proofs.Common.{sym, refl, ap, ◌∙◌, subst, subst₂}
use Rattle.std.proofs.lemmas.Result.{err_from_is_err_and}
use Rattle.records.specs.Periods.{periods_of}
use Rattle.patterns.specs.Files.{FileSays}
use Rattle.patterns.specs.Fillings.{Unfilled}
use Rattle.patterns.specs.Plans.{field_of}
use Rattle.patterns.specs.Reads.{Sorted, LaidOut, undecoded, unsorted, unplanned, unfilled}
use Rattle.patterns.proofs.reading.read.Goals as goal

pub returns-in_err-entries : goal.returns-in_err-entries
returns-in_err-entries c =
    let p = err_from_is_err_and c.from_residual.result c.from_residual.ensures.1 in
    rw (p.1, p.2) (undecoded c.in_err-entries.ensures, refl)

pub returns-in_err-singles : goal.returns-in_err-singles
returns-in_err-singles c =
    let p = err_from_is_err_and c.from_residual-in_err-singles.result c.from_residual-in_err-singles.ensures.1 in
    let es = c.as_slice.result.now in
    let says = subst (FileSays c.args.bytes.now) (sym c.as_slice.ensures.value) c.in_ok-entries.ensures in
    let q = c.in_err-singles.ensures in
    rw (p.1, p.2) (unsorted es says q.0 q.1, refl)

pub returns-in_err-plan : goal.returns-in_err-plan
returns-in_err-plan c =
    let p = err_from_is_err_and c.from_residual-in_err-plan.result c.from_residual-in_err-plan.ensures.1 in
    let es = c.as_slice.result.now in
    let s = c.in_ok-singles.singles in
    let says = subst (FileSays c.args.bytes.now) (sym c.as_slice.ensures.value) c.in_ok-entries.ensures in
    let sorted : Sorted c.args.bytes.now es s = record { says = says; singled = c.in_ok-singles.ensures } in
    rw (p.1, p.2) (unplanned es s sorted c.in_err-plan.ensures, refl)

pub returns-in_err-cells : goal.returns-in_err-cells
returns-in_err-cells c =
    let p = err_from_is_err_and c.from_residual-in_err-cells.result c.from_residual-in_err-cells.ensures.1 in
    let es = c.as_slice.result.now in
    let s = c.in_ok-singles.singles in
    let fault = c.in_err-cells.field-0.0 in
    let planned = c.in_ok-plan.ensures in
    let says = subst (FileSays c.args.bytes.now) (sym c.as_slice.ensures.value) c.in_ok-entries.ensures in
    let laid_out : LaidOut c.args.bytes.now es s = record {
      sorted = record { says = says; singled = c.in_ok-singles.ensures };
      admits = planned.admits;
      periods = planned.width.admitted;
    } in
    let same = c.as_slice-3.ensures.value ∙ sym c.as_slice.ensures.value in
    let of_these = subst (λ xs. Unfilled (field_of c.in_ok-plan.plan.field).order c.as_slice-2.result.now xs fault.«record» fault.fault) same c.in_err-cells.ensures in
    let stopped = subst₂ (λ q ns. Unfilled q ns es fault.«record» fault.fault) (ap (λ A. A.order) planned.field) (c.as_slice-2.ensures.value ∙ ap periods_of planned.periods) of_these in
    rw (p.1, p.2) (unfilled es s laid_out stopped, refl)
