-- The long-run statement holds of every sheet.
use Rattle.worksheet.specs.Views.{sheet}
use Rattle.worksheet.proofs.Outcomes.{long_run}
use Rattle.worksheet.proofs.worksheet.Worksheet.summary.Goals as goal

pub returns : goal.returns
returns c = record { counts = c.counted.ensures; long_run = long_run (sheet c.args.self.now) }
