-- The fold sums the products of the pairs of codes and values at the stairs.
use Rattle.std.proofs.Common.{◌≡◌, ℕ, get_or, take, refl, ap, ◌∙◌, rules, arith}
use Rattle.std.specs.List.{zip}
use Rattle.std.proofs.lemmas.Fn.{fold_over, fronts}
use Rattle.std.proofs.lemmas.Iterator.{YieldsList-from_slice, YieldsList-from_zip, zips}
use Rattle.fields.specs.Arithmetic.{total}
use Rattle.refilling.proofs.Sums.{total_of, pair_more, all_pairs}
use Rattle.refilling.proofs.border.Border.combination.Goals as goal

pub returns : goal.returns
returns g c =
    let A = g.F.Field.arithmetic c.args.self.now.field.now in
    let n : ℕ = c.count-count.result in
    let codes = c.args.codes.now in
    let values = c.args.values.now in
    fold_over (zips fronts fronts) _ _ (λ ps a. a ≡ total_of A ps) _ (λ ps a x b q J k. (pair_more A ps (x.0.now, x.1.now) a b J (search rules), search rules)) c.zip.result
    (zip (take n codes) (take n values)) 0 c.fold.result
    (YieldsList-from_zip {s = c.zip.result} (YieldsList-from_slice (take n codes) (search rules)) (YieldsList-from_slice (take n values) (search rules))).runs refl c.fold.ensures.ran ∙
    all_pairs A n codes values (omega arith) (omega arith) ∙
    ap (λ k. total A k (λ i. A.product (get_or codes i 0) (get_or values i 0))) c.count-count.ensures.all
