-- The copy of a that comes next, and the sum of those so far.
use Rattle.std.proofs.Common.{◌≡◌, ◌%◌, ◌^◌, ◌<◌}
use Rattle.fields.proofs.Copies.{copy, copies}
use Rattle.fields.proofs.binary.BinaryField.product.Given as goal

abbrev pub invariant-loop-i : goal.invariant-loop-i
invariant-loop-i l =
    (l.copy < 2 ^ l.self.degree)
    × (l.copy ≡ copy l.self.degree l.i (l.a % 2 ^ l.self.degree))
    × (l.total ≡ copies l.self.degree l.i (l.a % 2 ^ l.self.degree) l.terms)
