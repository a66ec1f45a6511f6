use Rattle.boards.proofs.Runs.{Stands}
use Rattle.boards.proofs.journal.state_after.Given as goal

abbrev pub invariant-loop-event : goal.invariant-loop-event
invariant-loop-event g l = Stands (g.B.Board.meaning l.board) l.p l.used l.event-index l.state
