-- The position in the list is the number of the stair.
use Rattle.std.proofs.Common.{rules}
use Rattle.std.proofs.lemmas.Iterator.{YieldsList-from_slice, IsFirst-from_position}
use Rattle.monomials.specs.Monomials.{mono}
use Rattle.refilling.specs.Borders.{IsProduct}
use Rattle.refilling.proofs.Listed.{found_stair}
use Rattle.refilling.proofs.border.Border.find_stair.Goals as goal

pub returns : goal.returns
returns g c =
    let P = λ (b : _). IsProduct (mono c.args.factor.now) c.args.variable b in
    found_stair c.args.self.now.lines.now P c.args.self.now.stairs.items c.args.self.now.listed c.position.result
    (IsFirst-from_position _ _ c.position.result (λ es. P (mono es)) (λ es. P (mono es) → ⊥) c.position.ensures.ran
    (YieldsList-from_slice c.args.self.now.stairs.items (search rules)) (λ x q k. search rules) (λ x q k. (search rules, search rules)))
