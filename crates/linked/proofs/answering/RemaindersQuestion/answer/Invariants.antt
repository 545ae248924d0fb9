-- The remainders so far stand, and nothing after them is changed.
use Rattle.std.proofs.Common.{ℕ, ◌*◌, ◌<◌}
use Rattle.worksheet.specs.Views.{sheet}
use Rattle.linked.specs.Answers.{Remaindered}
use Rattle.linked.specs.Numbers.{SameFrom}
use Rattle.linked.proofs.answering.RemaindersQuestion.answer.Given as goal

abbrev pub invariant-loop-number : goal.invariant-loop-number
invariant-loop-number g l =
    ((i : ℕ) → i < l.number → Remaindered (g.S.Subject.meaning l.subject) (g.F.Field.arithmetic l.field) l.self.polynomials.now (sheet l.sheet) l.out i) ×
    SameFrom (64 * l.number) l.initial.out l.out
