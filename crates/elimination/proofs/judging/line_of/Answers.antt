-- The line that is made of the cleared image stands.
use Rattle.std.proofs.Common.{◌≡◌, ℕ, min, List, length, sym, ap, ◌∙◌, subst, subst₂, rules}
use Rattle.monomials.specs.Monomials.{mono}
use Rattle.monomials.specs.declared.monomial.Monomial.{Monomial}
use Rattle.elimination.specs.Images.{Holds}
use Rattle.elimination.specs.Clearings.{Cleared}
use Rattle.elimination.proofs.Making.{made}
use Rattle.elimination.proofs.judging.line_of.Goals as goal

pub returns : goal.returns
returns g c =
    let S = g.S.Subject.meaning c.args.subject.now in
    let A = g.F.Field.arithmetic c.args.field.now in
    let j = c.judged.ensures in
    let exponents : length c.args.monomial.exponents ≡ 4 = search rules in
    let combination : length c.clear-combination.result ≡ 64 = search rules in
    let m = made S (g.S.Subject.laws c.args.subject.now) A (g.met.F.Field.laws c.args.field.now) c.width.result c.width.ensures c.args.before.now
    c.judged.result c.image_of-image.result
    (subst (λ (a : Monomial). Holds S.width (S.image A (mono a.exponents)) c.image_of-image.result) (sym j.monomial) c.image_of-image.ensures)
    (subst₂ (λ (x y : List ℕ). Cleared A (min c.width.result 64) c.args.before.now c.image_of-image.result x y) (sym j.image) (sym j.combination) c.clear-combination.ensures.cleared)
    (record {
      exponents = ap (λ (a : Monomial). length a.exponents) j.monomial ∙ exponents;
      combination = ap length j.combination ∙ combination;
      image = ap length j.image ∙ c.clear-combination.array_long;
    })
    j.says in
    record { own = j.monomial; stands = m.0; echelon = m.1 }
