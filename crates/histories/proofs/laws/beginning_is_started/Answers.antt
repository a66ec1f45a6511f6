use Rattle.histories.proofs.Beginnings.{beginning_is_started}
use Rattle.histories.proofs.laws.beginning_is_started.Goals as goal

pub returns : goal.returns
returns c = beginning_is_started
