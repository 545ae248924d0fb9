-- A subject is at most 64 positions wide.
use Rattle.std.proofs.Common.{◌<◌, arith, rules}
use Rattle.elimination.proofs.images.image_of.Goals as goal

pub returns : goal.returns
returns g c = record {
  inside = λ k h.
      let narrow : k < 64 = omega (arith, (g.S.Subject.laws c.args.subject.now).narrow) in
      let inside : k < c.width.result = omega (arith, c.width.ensures) in
      search (rules, c.row.ensures.inside k inside narrow);
  past = λ k h. c.row.ensures.past k (omega (arith, c.width.ensures));
}
