use Rattle.table_board.specs.Building.{meant}
use Rattle.table_board.proofs.Fits.{numbered}
use Rattle.table_board.proofs.Laying.{policies_more}
use Rattle.table_board.proofs.building.Source.made_policies.Goals as goal

pub loop-given-preserved : goal.loop-given-preserved
loop-given-preserved c =
    let source = c.args.self.now in
    let number = numbered source.kept c.loop-given.given-index c.loop-given-test.true in
    rw c.in_ok-push.ensures.items (policies_more (meant source).automaton _ _ _ c.loop-given.invariant (rw number at c.in_ok-made_policy.ensures))
