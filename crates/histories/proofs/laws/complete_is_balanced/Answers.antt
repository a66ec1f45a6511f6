use Rattle.histories.proofs.Balance.{complete_is_balanced}
use Rattle.histories.proofs.laws.complete_is_balanced.Goals as goal

pub returns : goal.returns
returns c = complete_is_balanced
