-- A past to which the long-run statement applies, with every kind of call.
use Rattle.std.specs.Prelude.{◌≡◌, ℕ, Bool, List, [], ◌∷◌, length, Result, Option}
use Rattle.faults.specs.declared.worksheet.WorksheetFault.{WorksheetFault}
use Rattle.fields.specs.Residues.{residues}
use Rattle.monomials.specs.Monomials.{Mono}
use Rattle.monomials.specs.Rules.{lexicographic}
use Rattle.polynomials.specs.declared.term.Term.{Term}
use Rattle.rows.specs.declared.line.Line.{Line}
use Rattle.rows.specs.Ideals.{SetUp, Lawful, array_set_up}
use Rattle.monomials.specs.declared.monomial.Monomial.{Monomial}
use Rattle.rows.specs.declared.verdict.Verdict.{Verdict}
use Rattle.worksheet.specs.declared.answers.Ran.{Ran}
use Rattle.worksheet.specs.Sheets.{Sheet, Done}
use Rattle.worksheet.specs.Steps.{opened}
use Rattle.worksheet.specs.Pasts.{Call, step, run, read, remainder, refill, score, Past, KeptTo}

-- one cell with code 1 modulo 5, under the lexicographic order
abbrev pub one_cell : SetUp
one_cell = array_set_up (1 ∷ []) (1 ∷ []) (residues 5) lexicographic

-- a step and a run under the set-up, and then one question of each kind, with its arguments and answers
pub record Calls : Type 0 where
  pub stepped : Result (Option (Monomial × Verdict)) WorksheetFault
  pub ran : Result Ran WorksheetFault
  pub number : ℕ
  pub place : Line
  pub says : Result Bool WorksheetFault
  pub place_after : Line
  pub terms : List Term
  pub lent_codes : List ℕ
  pub left : Result (Unit {0}) WorksheetFault
  pub codes_after : List ℕ
  pub codes : List ℕ
  pub at : Mono
  pub refilled : Result ℕ WorksheetFault
  pub scored : Result ℕ WorksheetFault

-- the calls, one after another
abbrev pub past_of : Calls → List Call
past_of c =
    step one_cell c.stepped ∷ run one_cell c.ran ∷ read c.number c.place c.says c.place_after ∷
    remainder one_cell.subject one_cell.field c.terms c.lent_codes c.left c.codes_after ∷
    refill one_cell.field c.codes c.at c.refilled ∷ score (1 ∷ []) c.scored ∷ []

-- such a past came about over three lent lines, kept to a lawful set-up, and the sheet is finished
pub record WorkedPast : Type 0 where
  pub lawful : Lawful one_cell
  pub lent : List Line
  pub three : length lent ≡ 3
  pub calls : Calls
  pub sheet : Sheet
  pub happened : Past (past_of calls) (opened one_cell.subject one_cell.field lent) sheet
  pub kept : KeptTo one_cell (past_of calls)
  pub done : Done sheet
