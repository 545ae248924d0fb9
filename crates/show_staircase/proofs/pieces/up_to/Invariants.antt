-- The text has the pieces so far.
use Rattle.std.proofs.Common.{◌≡◌, ℕ, List, string_bytes}
use Rattle.show_staircase.specs.Drawings.{Spells, up_to}
use Rattle.show_staircase.proofs.pieces.up_to.Given as goal

abbrev pub invariant-loop-number : goal.invariant-loop-number
invariant-loop-number g l =
    (spelled : ℕ → List ℕ) → Spells (goal.F-post g l.piece) spelled l.count → string_bytes l.text ≡ up_to spelled l.number
