-- The numbers fit, the sheet is finished, and the quotient is that of the stairs.
use Rattle.std.proofs.Common.{◌*◌, ◌/◌, refl, ap, ◌∙◌, rules}
use Rattle.polynomials.specs.Arrays.{cells_of}
use Rattle.worksheet.proofs.worksheet.Worksheet.score.Goals as goal

pub returns : goal.returns
returns c = (
  record { variables = search rules; cells = search rules },
  c.if-not-is_done.ensures.0 refl,
  c.per_thousand.ensures ∙ ap (λ x. 1000 * x / cells_of c.args.array.now.periods.now) c.stairs.ensures.is,
)
