-- What holds of the lines of every worksheet, whatever its past.
use Rattle.std.specs.Prelude.{ℕ, ◌<◌, List, length, take}
use Rattle.elimination.specs.Echelons.{Echelon}
use Rattle.rows.specs.declared.line.Line.{Line}
use Rattle.rows.specs.Lines.{monomial_of, line}
use Rattle.rows.specs.Sheets.{Waits}

-- each monomial waited when it was judged: it is 1, or the product of a stair before it by one of m variables, and it is
-- neither that of a line before it nor a multiple of a lead before it
abbrev pub EachWaited : ℕ → List Line → Type 0
EachWaited m lines = (i : ℕ) → i < length lines → Waits m (take i lines) (monomial_of (line lines i))

-- sound lines, in m variables, with w positions and codes below q: each waited, and they are in echelon form
pub record Sound (m w q : ℕ) (lines : List Line) : Type 0 where
  pub waited : EachWaited m lines
  pub echelon : Echelon w q lines
