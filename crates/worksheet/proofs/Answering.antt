-- What the next call says of a sheet that is kept to its set-up.
use Rattle.std.proofs.Common.{◌≡◌, ℕ, ◌+◌, ◌*◌, ◌<◌, ◌≤◌, ◌↔◌, List, length, take, Ok, Err, sym, refl, ap, ◌∙◌, subst, arith, Some, None, Option}
use mathlib.Core.Path.{subst⁻¹}
use Rattle.std.proofs.lemmas.List.{length-take-le}
use Rattle.faults.specs.declared.worksheet.WorksheetFault.{WorksheetFault}
use Rattle.faults.specs.declared.worksheet.WorksheetFault.TheVariants.{Code, OtherSetUp, Unfinished, NoLineLeft, LineNumber, Exponent, Length, Subject}
use Rattle.rows.specs.declared.line.Line.{Line}
use Rattle.rows.specs.Ideals.{SetUp, Lawful}
use Rattle.rows.specs.Lines.{stairs_of}
use Rattle.rows.specs.Rows.{Row}
use Rattle.rows.specs.Sheets.{Finished}
use Rattle.rows.proofs.Firsts.{first_of_row, finished_length}
use Rattle.rows.proofs.Counts.{lines_counted, lines_bounded}
use Rattle.monomials.specs.declared.monomial.Monomial.{Monomial}
use Rattle.rows.specs.declared.verdict.Verdict.{Verdict}
use Rattle.worksheet.specs.declared.answers.Ending.{Ending}
use Rattle.worksheet.specs.declared.answers.Ending.TheVariants as endings
use Rattle.worksheet.specs.Sheets.{Sheet, judged, Done, Fits}
use Rattle.worksheet.specs.Steps.{SomeNext, Steps, Ends, Runs}
use Rattle.worksheet.specs.Pasts.{Call, judged_in}
use Rattle.worksheet.specs.LongRun.{NoneMissing, LinesHold, AnswersHold}
use Rattle.worksheet.proofs.Holding.{Holds, many_hold}

module _ (U : SetUp) (K : Lawful U) (lent row : List Line) (R : Row U row) where
  -- the lines judged are as many as are used
  pub judged_length : (n : ℕ) (s : Sheet) → Holds U lent n s → length (judged s) ≡ s.used
  judged_length n s H = length-take-le s.used s.lines H.within

  -- the set-up has the sheet's numbers
  pub fits : (n : ℕ) (s : Sheet) → Holds U lent n s → Fits U.subject U.field s
  fits n s H = record { subject = record { variables = sym H.variables; width = sym H.width }; field = sym H.order }

  -- the sheet is finished exactly when none of the row is missing
  pub done_or_missing : (n : ℕ) (s : Sheet) → Holds U lent n s → Done s ↔ NoneMissing row s
  done_or_missing n s H =
      let (there, back) = finished_length U K (judged s) row H.kept R in (
        (λ d. sym (judged_length n s H) ∙ there (subst (λ m. Finished m (judged s)) H.variables d)),
        (λ e. subst⁻¹ (λ m. Finished m (judged s)) H.variables (back (judged_length n s H ∙ e))),
      )

  -- where a monomial is next, one is missing
  pub next_missing : (n : ℕ) (s : Sheet) → Holds U lent n s → SomeNext U s → NoneMissing row s → ⊥
  next_missing n s H (a, next) e = (done_or_missing n s H).1 e a next.waits

  -- the lines
  pub lines_hold : (past : List Call) (s : Sheet) → Holds U lent (judged_in past) s → LinesHold row lent past s
  lines_hold past s H =
      let (few, first) = first_of_row U K (judged s) row H.kept R in
      let e = judged_length (judged_in past) s H in
      record {
        as_many = H.count;
        within = subst (λ k. k ≤ length row) e few;
        first = first ∙ ap (λ k. take k row) e;
        unused = H.unused;
        as_long = H.as_long;
      }

  -- what a step says
  step_says : (n : ℕ) (s : Sheet) → Holds U lent n s → (answer : Option (Monomial × Verdict)) (after : Sheet) → Steps U s (Ok answer) after → (answer ≡ None) ↔ NoneMissing row s
  step_says n s H None after h = ((λ e. (done_or_missing n s H).0 h.1), λ e. refl)
  step_says n s H (Some (a, v)) after h = (
    (λ e. let z : ◌≡◌ {A = ℕ} 0 1 = cc in absurd (omega arith)),
    (λ e. absurd (next_missing n s H (_, h.1.next) e)),
  )

  -- when a step is refused
  step_refusal : (n : ℕ) (s : Sheet) → Holds U lent n s → s.used ≤ length row → (fault : WorksheetFault) (after : Sheet) → Steps U s (Err fault) after →
      (s.used < length row) × (s.used ≡ length s.lines)
  step_refusal n s H few OtherSetUp after h = absurd (h.0 (fits n s H))
  step_refusal n s H few NoLineLeft after h = let d : NoneMissing row s → ⊥ = next_missing n s H h.1 in (omega arith, h.2)
  step_refusal n s H few (Code place) after h = absurd h
  step_refusal n s H few Unfinished after h = absurd h
  step_refusal n s H few LineNumber after h = absurd h
  step_refusal n s H few (Exponent place) after h = absurd h
  step_refusal n s H few Length after h = absurd h
  step_refusal n s H few (Subject fault) after h = absurd h

  -- what a run says of the sheet after it
  ending_says : (n : ℕ) (s : Sheet) → Holds U lent n s → (ending : Ending) → Ends U ending s → (ending ≡ endings.Finished) ↔ NoneMissing row s
  ending_says n s H endings.Finished d = ((λ e. (done_or_missing n s H).0 d), λ e. refl)
  ending_says n s H endings.Full h = (
    (λ e. let z : ◌≡◌ {A = ℕ} 0 1 = cc in absurd (omega arith)),
    (λ e. absurd (next_missing n s H h.0 e)),
  )

  -- a run is not refused
  run_refusal : (n : ℕ) (s : Sheet) → Holds U lent n s → (fault : WorksheetFault) (after : Sheet) → Runs U s (Err fault) after → ⊥
  run_refusal n s H OtherSetUp after h = h.0 (fits n s H)
  run_refusal n s H NoLineLeft after h = h
  run_refusal n s H (Code place) after h = h
  run_refusal n s H Unfinished after h = h
  run_refusal n s H LineNumber after h = h
  run_refusal n s H (Exponent place) after h = h
  run_refusal n s H Length after h = h
  run_refusal n s H (Subject fault) after h = h

  -- the answers
  pub answers_hold : (past : List Call) (s : Sheet) → Holds U lent (judged_in past) s → AnswersHold U row past s
  answers_hold past s H =
      let n : ℕ = judged_in past in
      let e : length (judged s) ≡ n = judged_length n s H ∙ H.count in
      record {
        reading = λ number place says place_after h.
            ((λ t. (done_or_missing n s H).0 (h.2.0 t)), λ m. h.2.1 ((done_or_missing n s H).1 m));
        step = step_says n s H;
        step_refused = step_refusal n s H (lines_hold past s H).within;
        run = λ ran after h. ending_says (n + ran.judged) after (many_hold U K lent ran.judged n s after H h.1) ran.ending h.2;
        run_refused = run_refusal n s H;
        counted = sym e ∙ lines_counted (judged s);
        bounded = subst (λ k. k ≤ U.subject.variables * length (stairs_of (judged s)) + 1) e (lines_bounded U K (judged s) H.kept);
      }
