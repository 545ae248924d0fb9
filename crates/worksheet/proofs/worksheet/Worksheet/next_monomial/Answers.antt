-- The products of the judged lines by variables fit.
use Rattle.std.proofs.Common.{subst}
use mathlib.Core.Path.{subst⁻¹}
use Rattle.worksheet.specs.Sheets.{judged}
use Rattle.worksheet.specs.Selections.{ProductsFit, NextOrFinished}
use Rattle.worksheet.specs.Views.{sheet}
use Rattle.worksheet.proofs.Soundness.{products_fit}
use Rattle.worksheet.proofs.worksheet.Worksheet.next_monomial.Goals as goal

pub next-requires : goal.next-requires
next-requires g c =
    let s = c.args.self.now in
    (s.few, subst⁻¹ ProductsFit c.judged.ensures (products_fit s.variables s.width s.order (judged (sheet s)) s.narrow s.sound))

pub returns : goal.returns
returns g c = subst (λ x. NextOrFinished c.args.self.now.variables (g.O.MonomialOrder.order c.args.order.now) x c.next.result) c.judged.ensures c.next.ensures
