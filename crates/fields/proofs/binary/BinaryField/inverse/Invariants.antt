-- The last square, and the product of the squares so far.
use Rattle.std.proofs.Common.{◌≡◌, ◌-◌, ◌%◌, ◌^◌}
use Rattle.fields.specs.Binaries.{binary}
use Rattle.fields.specs.PowersLemmas.{square, squares}
use Rattle.fields.proofs.binary.BinaryField.inverse.Given as goal

abbrev pub invariant-loop : goal.invariant-loop
invariant-loop l =
    (l.square ≡ square (binary l.self.degree) (l.counter - 1) (l.a % 2 ^ l.self.degree))
    × (l.inverse ≡ squares (binary l.self.degree) (l.counter - 1) (l.a % 2 ^ l.self.degree))
