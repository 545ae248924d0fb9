-- What a sheet that was opened under an array and run gives.
use Rattle.std.proofs.Common.{◌≡◌, ℕ, List, length, Ok, subst, subst₂}
use Rattle.fields.specs.Arithmetic.{Arithmetic}
use Rattle.monomials.specs.Orders.{Order}
use Rattle.polynomials.specs.Arrays.{array_meaning}
use Rattle.subjects.specs.ArrayGrounds.{ArrayAdmitted}
use Rattle.rows.specs.declared.line.Line.{Line}
use Rattle.rows.specs.Ideals.{array_set_up}
use Rattle.worksheet.specs.declared.answers.Ran.{Ran}
use Rattle.worksheet.specs.declared.answers.Ending.{Ending}
use Rattle.worksheet.specs.Sheets.{Sheet}
use Rattle.worksheet.specs.Steps.{opened, Runs}
use Rattle.linked.specs.Works.{RanTo}

-- the array was set to the periods and cells
pub ran_to : (A : Arithmetic) (O : Order) (ns cells ns' cells' : List ℕ) → (ns' ≡ ns) × (cells' ≡ cells) → ArrayAdmitted A.order ns cells → (lent : List Line) →
    length lent ≡ 193 → (s : Sheet) → s ≡ opened (array_meaning ns' cells') A lent → (ran : Ran) (after : Sheet) → Runs (array_set_up ns' cells' A O) s (Ok ran) after → (ending : Ending) → ran.ending ≡ ending → RanTo A O ns cells ending after
ran_to A O ns cells ns' cells' same admitted lent all s fresh ran after runs ending e =
    record {
      admitted = admitted;
      lent = lent;
      all = all;
      ran = ran;
      runs = subst₂ (λ x y. Runs (array_set_up x y A O) (opened (array_meaning x y) A lent) (Ok ran) after) same.0 same.1
          (subst (λ x. Runs (array_set_up ns' cells' A O) x (Ok ran) after) fresh runs);
      ended = e;
    }
