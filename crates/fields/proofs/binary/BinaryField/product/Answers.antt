-- One turn takes one term of b.
use Rattle.std.proofs.Common.{◌≡◌, suc, ◌*◌, ◌/◌, ◌%◌, ◌^◌, ap, ◌∙◌, ap₂, mod-lt, add-one, arith, pow_pos}
use lib.Bits.{bit_xor, and_mask}
use Rattle.fields.specs.Binaries.{reduction, remainder}
use Rattle.fields.proofs.Copies.{copies, copy_below, copies_are, term_fits}
use Rattle.fields.proofs.binary.BinaryField.product.Goals as goal

pub overflow_mul-total : goal.overflow_mul-total
overflow_mul-total c =
    let f = c.args.self.now in
    omega (arith, term_fits f.degree f.listed c.loop-i.copy (c.code-terms.result / 2 ^ c.loop-i.i) c.loop-i.invariant.0)

pub loop-i-preserved : goal.loop-i-preserved
loop-i-preserved c =
    let k = c.args.self.now.degree in
    let a = c.args.a % 2 ^ k in
    let (l, e, s) = c.loop-i.invariant in
    let next = c.by_z-copy.ensures ∙ ap (λ x. remainder k (reduction k) 1 (x * 2)) e in (
      rw next (copy_below k c.args.self.now.listed (suc c.loop-i.i) a (mod-lt c.args.a (pow_pos k))),
      rw add-one next,
      rw (add-one, and_mask (c.code-terms.result / 2 ^ c.loop-i.i) 1) (ap₂ (λ t x. bit_xor t (x * (c.code-terms.result / 2 ^ c.loop-i.i % 2))) s e),
    )

pub returns : goal.returns
returns c =
    let k = c.args.self.now.degree in
    let a = c.args.a % 2 ^ k in
    let done : c.loop-i.i ≡ k = omega arith in
    c.loop-i.invariant.2 ∙ ap (λ i. copies k i a c.code-terms.result) done ∙ ap (copies k k a) c.code-terms.ensures
    ∙ copies_are k c.args.self.now.listed k a (c.args.b % 2 ^ k) (omega arith) (mod-lt c.args.a (pow_pos k))
