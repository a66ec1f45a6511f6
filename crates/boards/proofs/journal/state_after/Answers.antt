use Rattle.std.proofs.Common.{arith}
use Rattle.boards.proofs.Runs.{stands_first, stands_more}
use Rattle.boards.proofs.journal.state_after.Goals as goal

pub loop-event-init : goal.loop-event-init
loop-event-init g c = stands_first _ (g.met.B.Board.sound c.args.board.now) _ _ _ c.in_ok-state.ensures

pub loop-event-preserved : goal.loop-event-preserved
loop-event-preserved g c = grind (arith, stands_more _ (g.met.B.Board.sound c.args.board.now))
