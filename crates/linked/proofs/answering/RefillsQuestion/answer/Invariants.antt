-- The codes so far are those of the refills, and none after them is changed.
use Rattle.std.proofs.Common.{ℕ, ◌<◌, get_or}
use Rattle.worksheet.specs.Views.{sheet}
use Rattle.linked.specs.Answers.{Refilled}
use Rattle.linked.specs.Numbers.{SameFrom}
use Rattle.linked.proofs.answering.RefillsQuestion.answer.Given as goal

abbrev pub invariant-loop-number : goal.invariant-loop-number
invariant-loop-number g l =
    ((i : ℕ) → i < l.number → Refilled (g.F.Field.arithmetic l.field) l.self.codes.now l.self.exponents.now (sheet l.sheet) i (get_or l.out i 0)) ×
    SameFrom l.number l.initial.out l.out
