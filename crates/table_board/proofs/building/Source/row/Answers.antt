use Rattle.std.proofs.Common.{replicate, arith}
use Rattle.std.proofs.lemmas.List.{get_or_default, get_or-replicate, take_all}
use Rattle.std.proofs.lemmas.Bool.Decides.{nat_tests}
use Rattle.table_board.proofs.Fits.{each_edge}
use Rattle.table_board.proofs.Read.{get_or-fold-written, length-fold-written}
use Rattle.table_board.proofs.building.Source.row.Goals as goal

pub overflow_cast-next : goal.overflow_cast-next
overflow_cast-next c = grind (arith, nat_tests, each_edge c.args.self.now.kept)

pub bounds-next-edge : goal.bounds-next-edge
bounds-next-edge c = grind (arith, nat_tests, each_edge c.args.self.now.kept)

pub returns : goal.returns
returns c = record {
  whole = grind (arith, take_all, length-fold-written);
  offends = grind arith;
  next = λ e low. grind (arith, take_all, length-fold-written, get_or_default c.loop-edge.next e c.args.state 0, get_or-replicate 256 e c.args.state 0 low, get_or-fold-written c.args.self.now.edges.now c.args.policy c.args.state e (replicate 256 c.args.state) low);
}
