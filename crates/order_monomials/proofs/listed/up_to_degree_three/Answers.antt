use mathlib.Core.Path.{subst⁻¹}
use Rattle.order_monomials.specs.Listed.{AllUpTo}
use Rattle.order_monomials.proofs.Table.{table_lists}
use Rattle.order_monomials.proofs.listed.up_to_degree_three.Goals as goal

pub returns : goal.returns
returns c = subst⁻¹ (AllUpTo 2 3) (cc) table_lists
