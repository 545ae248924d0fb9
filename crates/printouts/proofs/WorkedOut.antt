-- A sheet that was opened under an array and run: by the long-run statement it has the row of the array, or there are too few lines.
use Rattle.std.proofs.Common.{◌≡◌, ℕ, ◌*◌, ◌/◌, ◌≤◌, List, [], ◌∷◌, length, Ok, sym, refl, ap, ◌∙◌, subst, subst₂, zero-add, arith}
use mathlib.Core.Path.{subst⁻¹}
use Rattle.std.proofs.lemmas.List.{length-take-le}
use Rattle.faults.specs.Grounds.{of_worksheet}
use Rattle.faults.specs.declared.worksheet.WorksheetFault.TheVariants.{NoLineLeft}
use Rattle.fields.specs.Arithmetic.{Arithmetic, FieldLaws}
use Rattle.monomials.specs.Orders.{Order, OrderLaws}
use Rattle.polynomials.specs.Arrays.{cells_of, array_meaning}
use Rattle.polynomials.proofs.Arrays.{array_laws}
use Rattle.subjects.specs.declared.periodic.PeriodicArray.{PeriodicArray}
use Rattle.rows.specs.declared.line.Line.{Line}
use Rattle.rows.specs.Ideals.{SetUp, Lawful, array_set_up}
use Rattle.rows.specs.Rows.{Row}
use Rattle.worksheet.specs.declared.answers.Ran.{Ran}
use Rattle.worksheet.specs.declared.answers.Ending.{Ending}
use Rattle.worksheet.specs.declared.answers.Ending.TheVariants as endings
use Rattle.worksheet.specs.Sheets.{Sheet, judged, Done}
use Rattle.worksheet.specs.Steps.{opened, Ends, Runs}
use Rattle.worksheet.specs.Questions.{stairs_in, FitsArray}
use Rattle.worksheet.specs.Pasts.{Call, run}
use Rattle.worksheet.specs.LongRun.{Outcome}
use Rattle.worksheet.proofs.Holding.{Holds, opened_holds, many_hold}
use Rattle.worksheet.proofs.Outcomes.{long_run}
use Rattle.listings.specs.Listings.{listing_text, refusal_line}
use Rattle.printouts.specs.Printouts.{lent_lines, pattern, row_text, ListsRow, listed, full}

module _ (A : Arithmetic) (O : Order) (ns cells : List ℕ) (L : Lawful (array_set_up ns cells A O)) (lent : List Line) (ran : Ran) (after : Sheet)
    (runs : Runs (array_set_up ns cells A O) (opened (array_meaning ns cells) A lent) (Ok ran) after) where
  abbrev U : SetUp
  U = array_set_up ns cells A O

  abbrev past : List Call
  past = run U (Ok ran) ∷ []

  -- what holds before and after the run
  before : Outcome U lent [] (opened U.subject U.field lent)
  before = long_run (opened U.subject U.field lent) U L lent [] refl tt

  later : Outcome U lent past after
  later = long_run after U L lent past (after, runs, refl) ((λ h. refl), tt)

  -- both speak of the one row
  same_row : later.one_row.row ≡ before.one_row.row
  same_row = before.one_row.only later.one_row.row later.one_row.is_row

  holds : Holds U lent ran.judged after
  holds = subst (λ n. Holds U lent n after) (zero-add ran.judged) (many_hold U L lent ran.judged 0 (opened U.subject U.field lent) after (opened_holds U L lent) runs.1)

  -- the sheet has the array's numbers
  fits_array : FitsArray ns after
  fits_array = record { variables = sym holds.variables; cells = sym holds.width }

  few : after.used ≤ length lent
  few = subst (λ n. after.used ≤ n) holds.as_long holds.within

  -- finished, its lines are the row
  lists : ran.ending ≡ endings.Finished → Row U (judged after)
  lists e = (later.finished ((before.answers.run ran after runs).0 e ∙ ap length (sym same_row))).lists

  -- and are listed
  finished_listed : length lent ≡ lent_lines → ran.ending ≡ endings.Finished → (text : List ℕ) →
      text ≡ listing_text after.used (length ns) (judged after) (1000 * stairs_in after / cells_of ns) → ListsRow (pattern A O ns cells) text
  finished_listed all e text is =
      let count : length (judged after) ≡ after.used = length-take-le after.used after.lines holds.within in
      let as_row : text ≡ row_text (pattern A O ns cells) (judged after) = is ∙ ap (λ n. listing_text n (length ns) (judged after) (1000 * stairs_in after / cells_of ns)) (sym count) in
      subst⁻¹ (ListsRow (pattern A O ns cells)) as_row (listed (judged after) (lists e) (omega (arith, count, few, all)))

  -- full, the row has more lines than are lent
  full_refused : length lent ≡ lent_lines → ran.ending ≡ endings.Full → ListsRow (pattern A O ns cells) (refusal_line (of_worksheet NoLineLeft))
  full_refused all e =
      let row = later.one_row.row in
      let ends : Ends U endings.Full after = subst (λ x. Ends U x after) e runs.2 in
      let within : after.used ≤ length row = later.lines.within in
      let used : after.used ≡ length lent = ends.1 ∙ holds.as_long in
      let missing : after.used ≡ length row → ⊥ = λ h. apart ((before.answers.run ran after runs).1 (h ∙ ap length same_row)) e in
      full row later.one_row.is_row (omega (arith, within, used, missing, all))
    where
      apart : {x : Ending} → x ≡ endings.Finished → x ≡ endings.Full → ⊥
      apart {x} p q = let z : ◌≡◌ {A = ℕ} 0 1 = cc in omega arith

-- the same of an array of code, which was set to some periods and cells
module _ (array : PeriodicArray) (periods cells : List ℕ) (set_to : (array.periods.now ≡ periods) × (array.cells.now ≡ cells))
    (A : Arithmetic) (F : FieldLaws A) (O : Order) (K : OrderLaws O) (lent : List Line) (all : length lent ≡ lent_lines)
    (s : Sheet) (fresh : s ≡ opened (array_meaning array.periods.now array.cells.now) A lent) (ran : Ran) (after : Sheet)
    (run : Runs (array_set_up array.periods.now array.cells.now A O) s (Ok ran) after) where
  lawful : Lawful (array_set_up array.periods.now array.cells.now A O)
  lawful = record { subject = array_laws array.periods.now array.cells.now array.few array.some array.narrow; field = F; order = K }

  runs : Runs (array_set_up array.periods.now array.cells.now A O) (opened (array_meaning array.periods.now array.cells.now) A lent) (Ok ran) after
  runs = subst (λ x. Runs (array_set_up array.periods.now array.cells.now A O) x (Ok ran) after) fresh run

  pub sheet_fits : FitsArray array.periods.now after
  sheet_fits = fits_array A O array.periods.now array.cells.now lawful lent ran after runs

  pub sheet_few : after.used ≤ lent_lines
  sheet_few = subst (λ n. after.used ≤ n) all (few A O array.periods.now array.cells.now lawful lent ran after runs)

  pub sheet_done : ran.ending ≡ endings.Finished → Done after
  sheet_done e = subst (λ x. Ends (array_set_up array.periods.now array.cells.now A O) x after) e runs.2

  pub sheet_listed : ran.ending ≡ endings.Finished → (text : List ℕ) →
      text ≡ listing_text after.used (length array.periods.now) (judged after) (1000 * stairs_in after / cells_of array.periods.now) → ListsRow (pattern A O periods cells) text
  sheet_listed e text is =
      subst₂ (λ x y. ListsRow (pattern A O x y) text) set_to.0 set_to.1
      (finished_listed A O array.periods.now array.cells.now lawful lent ran after runs all e text is)

  pub sheet_full : ran.ending ≡ endings.Full → (text : List ℕ) → text ≡ refusal_line (of_worksheet NoLineLeft) → ListsRow (pattern A O periods cells) text
  sheet_full e text is =
      subst₂ (λ x y. ListsRow (pattern A O x y) text) set_to.0 set_to.1
      (subst⁻¹ (ListsRow (pattern A O array.periods.now array.cells.now)) is (full_refused A O array.periods.now array.cells.now lawful lent ran after runs all e))
