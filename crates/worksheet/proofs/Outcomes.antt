-- The long-run statement: what holds after any past, read off the lines kept to the set-up.
use Rattle.std.proofs.Common.{List, subst, zero-add}
use Rattle.rows.specs.declared.line.Line.{Line}
use Rattle.rows.specs.Ideals.{SetUp, Lawful}
use Rattle.rows.proofs.Existence.{row_exists}
use Rattle.rows.proofs.Firsts.{row_only}
use Rattle.worksheet.specs.Sheets.{Sheet}
use Rattle.worksheet.specs.Steps.{opened}
use Rattle.worksheet.specs.Pasts.{Call, judged_in}
use Rattle.worksheet.specs.LongRun.{Outcome, LongRun}
use Rattle.worksheet.proofs.Holding.{Holds, opened_holds, past_holds}
use Rattle.worksheet.proofs.Answering.{done_or_missing, lines_hold, answers_hold}
use Rattle.worksheet.proofs.Finishing.{finished_holds, array_holds, points_hold}

-- what holds of the lines gives the outcome
outcome : (U : SetUp) → Lawful U → (lent : List Line) (past : List Call) (s : Sheet) → Holds U lent (judged_in past) s → Outcome U lent past s
outcome U K lent past s H = let (row, R) = row_exists U K in record {
  one_row = record { row = row; is_row = R; only = λ other T. row_only U K row other R T };
  lines = lines_hold U K lent row R past s H;
  answers = answers_hold U K lent row R past s H;
  finished = λ e. finished_holds U K lent (judged_in past) s H ((done_or_missing U K lent row R (judged_in past) s H).1 e);
  array = λ e. array_holds U K lent (judged_in past) s H ((done_or_missing U K lent row R (judged_in past) s H).1 e);
  points = λ e. points_hold U K lent (judged_in past) s H ((done_or_missing U K lent row R (judged_in past) s H).1 e);
}

-- the long-run statement holds of every sheet
pub long_run : (s : Sheet) → LongRun s
long_run s U K lent past P kept =
    outcome U K lent past s
    (subst (λ n. Holds U lent n s) (zero-add (judged_in past))
    (past_holds U K lent past 0 (opened U.subject U.field lent) s (opened_holds U K lent) P kept))
