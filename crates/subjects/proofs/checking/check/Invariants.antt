-- The image is zero at every position so far.
use Rattle.std.proofs.Common.{◌≡◌, ℕ, ◌<◌}
use Rattle.polynomials.specs.Subjects.{image_of}
use Rattle.polynomials.specs.Terms.{poly}
use Rattle.subjects.proofs.checking.check.Given as goal

abbrev pub invariant-loop-position : goal.invariant-loop-position
invariant-loop-position g l = (k : ℕ) → k < l.position → image_of (g.S.Subject.meaning l.subject) (g.F.Field.arithmetic l.field) (poly l.terms) k ≡ 0
