-- The image is cleared by the lines so far, and those behind the 64th stair are passed over.
use Rattle.std.proofs.Common.{min}
use Rattle.elimination.proofs.Passes.{Turned}
use Rattle.elimination.proofs.clearing.clear.Given as goal

abbrev pub invariant-loop-line : goal.invariant-loop-line
invariant-loop-line g l = Turned (g.F.Field.arithmetic l.field) (min l.width 64) l.lines l.line-index l.place l.initial.image l.image l.combination
