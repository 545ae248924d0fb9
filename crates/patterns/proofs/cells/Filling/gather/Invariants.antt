-- The cells so far have the codes of their records, and the others 0.
use Rattle.std.proofs.Common.{◌≡◌, ℕ, ◌<◌, ◌≤◌, length, get_or}
use Rattle.polynomials.specs.Arrays.{cell_at}
use Rattle.patterns.specs.Files.{entry}
use Rattle.patterns.specs.Cells.{OfCell, code_of}
use Rattle.patterns.proofs.cells.Filling.gather.Given as goal

abbrev pub invariant-loop-position : goal.invariant-loop-position
invariant-loop-position l = record {
  long : length l.cells ≡ 64;
  codes : (k : ℕ) → k < l.position → (i : ℕ) × OfCell l.self.entries.now (cell_at l.self.periods.now k) i × (get_or l.cells k 0 ≡ code_of (entry l.self.entries.now i));
  rest : (k : ℕ) → l.position ≤ k → get_or l.cells k 0 ≡ 0;
}
