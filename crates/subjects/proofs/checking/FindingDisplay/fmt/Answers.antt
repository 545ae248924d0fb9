-- The words are those of the finding.
use Rattle.subjects.proofs.checking.FindingDisplay.fmt.Goals as goal

pub returns-in-Holds-clause-writes : goal.returns-in-Holds-clause-writes
returns-in-Holds-clause-writes g c = rw c.in-Holds.is c.write_str.ensures.writes
