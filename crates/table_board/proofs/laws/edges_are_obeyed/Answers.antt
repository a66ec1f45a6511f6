use Rattle.table_board.proofs.Obeyed.{edges_are_obeyed}
use Rattle.table_board.proofs.laws.edges_are_obeyed.Goals as goal

pub returns : goal.returns
returns c = edges_are_obeyed
