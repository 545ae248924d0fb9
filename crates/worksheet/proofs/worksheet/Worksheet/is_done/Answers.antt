-- Under an order, nothing is next exactly where nothing waits.
use Rattle.monomials.specs.Rules.{lexicographic}
use Rattle.worksheet.specs.Sheets.{judged}
use Rattle.worksheet.specs.Views.{sheet}
use Rattle.worksheet.proofs.Selecting.{finished_decided}
use Rattle.worksheet.proofs.worksheet.Worksheet.is_done.Goals as goal

pub returns : goal.returns
returns c = finished_decided c.args.self.now.variables lexicographic (judged (sheet c.args.self.now)) c.next_monomial.result c.is_none.result c.is_none.ensures c.next_monomial.ensures
