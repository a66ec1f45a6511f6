use Rattle.histories.proofs.Beginnings.{complete_is_started}
use Rattle.histories.proofs.laws.complete_is_started.Goals as goal

pub returns : goal.returns
returns c = complete_is_started
