-- What the rules leave free, and what holds of it all the same.
use Rattle.std.specs.Prelude.{◌≡◌, ℕ, ◌<◌, ◌≤◌, List, [], ◌∷◌, ◌++◌, length, slice_index}
use Rattle.rows.specs.declared.line.Line.{Line}
use Rattle.rows.specs.Lines.{stairs_of}
use Rattle.worksheet.specs.Sheets.{Sheet, judged}

-- THE FREEDOM OF A STEP: on a sheet not kept to the step's set-up the verdict, the pivot and the codes of the line are free;
-- but its codes are below the order, and there are no more stairs than positions
pub record FreeLine (s : Sheet) (l : Line) : Type 0 where
  pub combination : (j : ℕ) → slice_index l.combination j < s.order
  pub image : (k : ℕ) → slice_index l.image k < s.order
  pub few_stairs : length (stairs_of (judged s ++ l ∷ [])) ≤ s.width

-- THE FREEDOM OF A REMAINDER: on a sheet not kept to the remainder's subject and field the codes are free;
-- but there is one for each stair, below the order
pub record FreeCodes (s : Sheet) (codes : List ℕ) : Type 0 where
  pub one_each : length codes ≡ length (stairs_of (judged s))
  pub below : (j : ℕ) → j < length codes → slice_index codes j < s.order

-- THE FREEDOM OF A REFILL: on a sheet not kept to a set-up with the refill's field the code is free, but below the order
abbrev pub FreeCode : Sheet → ℕ → Type 0
FreeCode s code = code < s.order
