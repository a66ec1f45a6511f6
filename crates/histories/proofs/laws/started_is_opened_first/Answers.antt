use Rattle.histories.proofs.Balance.{started_is_opened_first}
use Rattle.histories.proofs.laws.started_is_opened_first.Goals as goal

pub returns : goal.returns
returns c = started_is_opened_first
