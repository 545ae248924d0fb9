-- The choice is the first of the products seen so far.
use Rattle.worksheet.specs.Selections.{Seen, Chosen}
use Rattle.worksheet.proofs.selection.next.Given as goal

abbrev pub invariant-loop-variable : goal.invariant-loop-variable
invariant-loop-variable g l = Chosen (g.O.MonomialOrder.order l.order) (Seen l.variables l.lines l.line-index l.variable) l.chosen

abbrev pub invariant-loop-line : goal.invariant-loop-line
invariant-loop-line g l = Chosen (g.O.MonomialOrder.order l.order) (Seen l.variables l.lines l.line-index 0) l.chosen
