-- No line is used, and the numbers are those of a lawful subject.
use Rattle.std.proofs.Common.{arith}
use Rattle.worksheet.proofs.Soundness.{none_sound}
use Rattle.worksheet.proofs.worksheet.Worksheet.open.Goals as goal

pub invariant_of-result : goal.invariant_of-result
invariant_of-result g c =
    let L = g.S.Subject.laws c.args.subject.now in
    record {
      room = omega arith;
      some = omega (arith, L.some_variable, c.variables.ensures);
      few = omega (arith, L.four_variables, c.variables.ensures);
      narrow = omega (arith, L.narrow, c.width.ensures);
      sound = none_sound _ _ _;
    }
