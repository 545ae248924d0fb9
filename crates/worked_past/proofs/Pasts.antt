-- Calls under the set-up, one after another, make the past; three lines are enough to finish.
use Rattle.std.proofs.Common.{◌≡◌, ℕ, ◌+◌, ◌≤◌, List, [], ◌∷◌, length, Ok, Err, Result, refl, ap, ◌∙◌, subst, arith}
use Rattle.std.proofs.lemmas.List.{length-take-le}
use Rattle.faults.specs.declared.worksheet.WorksheetFault.{WorksheetFault}
use Rattle.rows.specs.declared.line.Line.{Line}
use Rattle.fields.specs.Residues.{residues}
use Rattle.monomials.specs.Rules.{lexicographic}
use Rattle.polynomials.specs.Arrays.{array_meaning}
use Rattle.rows.specs.Ideals.{SetUp, Lawful, array_set_up}
use Rattle.rows.proofs.Counts.{stairs_counted, lines_bounded}
use Rattle.worksheet.specs.declared.answers.Ran.{Ran}
use Rattle.worksheet.specs.declared.answers.Ending.{Ending}
use Rattle.worksheet.specs.declared.answers.Ending.TheVariants as endings
use Rattle.worksheet.specs.Sheets.{Sheet, judged, Done}
use Rattle.worksheet.specs.Steps.{opened, Steps, Runs, Ends}
use Rattle.worksheet.specs.Questions.{Reads, Leaves, Refills, Scores}
use Rattle.worksheet.specs.Pasts.{Call, step, run, judged_in}
use Rattle.worksheet.specs.LongRun.{Outcome}
use Rattle.worksheet.proofs.Holding.{Holds, opened_holds, past_holds}
use Rattle.worksheet.proofs.Outcomes.{long_run}
use Rattle.worked_past.specs.WorkedPast.{one_cell, Calls, WorkedPast}

module _ (K : Lawful one_cell) (lent : List Line) (three : length lent ≡ 3) (c : Calls) (fresh first after : Sheet)
    (is_fresh : fresh ≡ opened one_cell.subject one_cell.field lent)
    (stepped : Steps one_cell fresh c.stepped first) (ran : Runs one_cell first c.ran after) where
  abbrev U : SetUp
  U = one_cell

  abbrev start : Sheet
  start = opened U.subject U.field lent

  steps : Steps U start c.stepped first
  steps = subst (λ s. Steps U s c.stepped first) is_fresh stepped

  -- what holds after the step
  halfway : Outcome U lent (step U c.stepped ∷ []) first
  halfway = long_run first U K lent (step U c.stepped ∷ []) (first, steps, refl) ((λ h. refl), tt)

  -- and after the run
  abbrev both : List Call
  both = step U c.stepped ∷ run U c.ran ∷ []

  holds : Holds U lent (0 + judged_in both) after
  holds = past_holds U K lent both 0 start after (opened_holds U K lent) (first, steps, (after, ran, refl)) ((λ h. refl), ((λ h. refl), tt))

  -- at most two lines are judged, so the three are not full
  few : after.used ≤ 2
  few =
      let count : length (judged after) ≡ after.used = length-take-le after.used after.lines holds.within in
      omega (arith, count, lines_bounded U K (judged after) holds.kept, stairs_counted U K (judged after) holds.kept)

  ended : (ending : Ending) → Ends U ending after → Done after
  ended endings.Finished h = h
  ended endings.Full h = absurd (omega (arith, few, h.1, holds.as_long, three))

  done_by : (answer : Result Ran WorksheetFault) → Runs U first answer after → Done after
  done_by (Ok r) h = ended r.ending h.2
  done_by (Err fault) h = absurd (halfway.answers.run_refused fault after h)

  pub done : Done after
  done = done_by c.ran ran

  pub worked : Reads c.number after c.place c.says c.place_after →
      Leaves U.subject U.field c.terms after c.lent_codes c.left c.codes_after → Refills U.field c.codes c.at after c.refilled →
      Scores (1 ∷ []) after c.scored → WorkedPast
  worked reads leaves refills scores = record {
    lawful = K;
    lent = lent;
    three = three;
    calls = c;
    sheet = after;
    happened = (first, steps, (after, ran, (after, (reads, refl), (after, (leaves, refl), (after, (refills, refl), (after, (scores, refl), refl))))));
    kept = ((λ h. refl), ((λ h. refl), ((λ h. absurd (omega arith)), ((λ h. absurd (omega arith)), ((λ h. absurd (omega arith)), ((λ h. absurd (omega arith)), tt))))));
    done = done;
  }

-- the same of an array and a field of code that are these
module _ (ns cells : List ℕ) (q : ℕ) (e_periods : ns ≡ 1 ∷ []) (e_cells : cells ≡ 1 ∷ []) (e_modulus : q ≡ 5)
    (K : Lawful (array_set_up ns cells (residues q) lexicographic)) (lent : List Line) (three : length lent ≡ 3) (c : Calls) (fresh first after : Sheet)
    (is_fresh : fresh ≡ opened (array_meaning ns cells) (residues q) lent)
    (stepped : Steps (array_set_up ns cells (residues q) lexicographic) fresh c.stepped first)
    (ran : Runs (array_set_up ns cells (residues q) lexicographic) first c.ran after) where
  same : array_set_up ns cells (residues q) lexicographic ≡ one_cell
  same =
      ap (λ x. array_set_up x cells (residues q) lexicographic) e_periods ∙ ap (λ x. array_set_up (1 ∷ []) x (residues q) lexicographic) e_cells ∙
      ap (λ x. array_set_up (1 ∷ []) (1 ∷ []) (residues x) lexicographic) e_modulus

  pub worked_by : Reads c.number after c.place c.says c.place_after →
      Leaves (array_meaning ns cells) (residues q) c.terms after c.lent_codes c.left c.codes_after → Refills (residues q) c.codes c.at after c.refilled →
      Scores ns after c.scored → WorkedPast
  worked_by reads leaves refills scores =
      worked (subst Lawful same K) lent three c fresh first after (subst (λ V. fresh ≡ opened V.subject V.field lent) same is_fresh)
      (subst (λ V. Steps V fresh c.stepped first) same stepped) (subst (λ V. Runs V first c.ran after) same ran) reads
      (subst (λ V. Leaves V.subject V.field c.terms after c.lent_codes c.left c.codes_after) same leaves)
      (subst (λ V. Refills V.field c.codes c.at after c.refilled) same refills) (subst (λ x. Scores x after c.scored) e_periods scores)
