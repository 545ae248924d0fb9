-- Below k the places are done, and from k on they are as they were.
use Rattle.std.proofs.Common.{◌≡◌, ℕ, ◌<◌, ◌≤◌, length, get_or}
use Rattle.elimination.proofs.multiples.add_multiple.Given as goal

abbrev pub invariant-loop-k : goal.invariant-loop-k
invariant-loop-k g l =
    (length l.target ≡ 64)
    × ((j : ℕ) → j < l.k → get_or l.target j 0 ≡ (g.F.Field.arithmetic l.field).sum (get_or l.initial.target j 0) ((g.F.Field.arithmetic l.field).product l.factor (get_or l.row j 0)))
    × ((j : ℕ) → l.k ≤ j → get_or l.target j 0 ≡ get_or l.initial.target j 0)
