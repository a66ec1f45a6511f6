use Rattle.std.proofs.Common.{◌≡◌, take, replicate, fold}
use Rattle.table_board.proofs.Read.{written}
use Rattle.table_board.proofs.building.Source.row.Given as goal

abbrev pub invariant-loop-edge : goal.invariant-loop-edge
invariant-loop-edge l = l.next ≡ fold (written l.policy l.state) (replicate 256 l.state) (take l.edge-index l.self.edges.now)
