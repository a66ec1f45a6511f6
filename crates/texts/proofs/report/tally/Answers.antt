use Rattle.std.proofs.Common.{rules}
use Rattle.texts.proofs.Enough.{tallied}
use Rattle.texts.proofs.report.tally.Goals as goal

pub returns : goal.returns
returns c = tallied _ (search rules) c.read.ensures.outcome c.read.ensures.only
