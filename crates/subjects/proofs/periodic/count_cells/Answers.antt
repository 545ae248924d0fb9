-- Each turn takes one period more.
use Rattle.std.proofs.Common.{◌≡◌, ◌<◌, ◌≤◌, length, sym, ◌∙◌, subst, inl, inr, arith}
use Rattle.std.proofs.lemmas.Bool.{cases_eq, eqb-false}
use Rattle.faults.specs.Places.{FirstAt}
use Rattle.subjects.specs.ArrayGrounds.{PeriodFault, PeriodsAdmitted}
use Rattle.subjects.specs.Variables.{VariablesFit}
use Rattle.subjects.proofs.Widths.{wider, all_cells, faulty, faultless}
use Rattle.subjects.proofs.periodic.count_cells.Goals as goal

pub returns-in_default : goal.returns-in_default
returns-in_default c =
    let ns = c.args.periods.now in
    let w = c.loop-axis.width in
    let v = c.loop-axis.axis in
    let (some, few, e, none) = c.loop-axis.invariant in
    let left : length ns ≡ 0 → ⊥ = eqb-false (length ns) 0 (sym c.if-is_empty.ensures) in
    let fits : VariablesFit (length ns) = record { some = omega arith; few = c.if-periods-gt-MOST_VARIABLES.false } in
    let first : FirstAt (PeriodFault ns) v = (faulty ns v w c.loop-axis-test.true e some c.in_default.ensures, none) in
    record { counted = λ order cells. (fits, first); refused = (fits, first) }

pub loop-axis-preserved : goal.loop-axis-preserved
loop-axis-preserved c =
    let ns = c.args.periods.now in
    let w = c.loop-axis.width in
    let v = c.loop-axis.axis in
    let (some, few, e, none) = c.loop-axis.invariant in
    let h = c.loop-axis-test.true in
    let (is, more, small) = c.in-Some.ensures in
    let fine : PeriodFault ns v → ⊥ = faultless ns v w h e (subst (λ x. 0 < x) is more) (subst (λ x. x ≤ 64) is small) in (
      more,
      small,
      is ∙ wider ns v w h e,
      λ j l f. elim (cases_eq j v) [ inl p ↦ fine (subst (PeriodFault ns) p f) | inr d ↦ none j (omega arith) f ],
    )

pub returns : goal.returns
returns c =
    let ns = c.args.periods.now in
    let (some, few, e, none) = c.loop-axis.invariant in
    let left : length ns ≡ 0 → ⊥ = eqb-false (length ns) 0 (sym c.if-is_empty.ensures) in
    let admitted : PeriodsAdmitted ns =
    record {
      variables = record { some = omega arith; few = c.if-periods-gt-MOST_VARIABLES.false };
      faultless = λ j f. none j (omega (arith, f.within)) f;
    } in
    record { counted = (admitted, e ∙ all_cells c.loop-axis.axis ns c.loop-axis-test.false, some, few); refused = admitted }
