-- The sum so far, with what the terms left give, is the image.
use Rattle.std.proofs.Common.{◌≡◌, ◌<◌, drop}
use Rattle.polynomials.specs.Subjects.{image_of}
use Rattle.polynomials.specs.Terms.{poly}
use Rattle.subjects.proofs.checking.polynomial_image.Given as goal

abbrev pub invariant-loop-term : goal.invariant-loop-term
invariant-loop-term g l =
    let S = g.S.Subject.meaning l.subject in
    let A = g.F.Field.arithmetic l.field in
    (l.sum < A.order) × (A.sum l.sum (image_of S A (poly (drop l.term-index l.terms)) l.position) ≡ image_of S A (poly l.terms) l.position)
