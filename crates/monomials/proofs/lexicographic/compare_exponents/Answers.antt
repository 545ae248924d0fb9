use Rattle.std.proofs.Common.{◌∙◌, arith}
use Rattle.monomials.proofs.Exponents.{compares_exponents}
use Rattle.monomials.proofs.lexicographic.compare_exponents.Goals as goal

pub returns : goal.returns
returns c = c.cmp.ensures ∙ compares_exponents c.args.a c.args.b (omega arith) (omega arith)
