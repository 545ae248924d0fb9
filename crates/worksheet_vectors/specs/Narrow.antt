-- A subject without positions.
use Rattle.std.specs.Prelude.{refl}
use Rattle.std.proofs.Common.{arith}
use Rattle.fields.proofs.Rings as rings
use Rattle.polynomials.specs.Subjects.{SubjectMeaning, SubjectLaws}

-- one variable, and no position
abbrev pub no_positions : SubjectMeaning
no_positions = record { variables = 1; width = 0; image = λ A a k. 0 }

-- it keeps the laws, since there is nothing to keep
pub no_positions_laws : SubjectLaws no_positions
no_positions_laws = record {
  some_variable = omega arith;
  four_variables = omega arith;
  narrow = omega arith;
  below = λ A L a k. rings.some_code A L.ring;
  past = λ A L a k h. refl;
  closed = λ A L p u h v l k b. absurd (omega arith);
}
