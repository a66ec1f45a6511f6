use Rattle.std.proofs.Common.{arith}
use Rattle.table_board.proofs.Fits.{each_says}
use Rattle.table_board.proofs.Laying.{rows_closed, rows_same}
use Rattle.table_board.proofs.building.Source.made_policy.Goals as goal

pub overflow_cast-result : goal.overflow_cast-result
overflow_cast-result c = grind (arith, each_says c.args.self.now.kept c.args.given c.requires)

pub overflow_cast-given : goal.overflow_cast-given
overflow_cast-given c = grind (arith, each_says c.args.self.now.kept c.args.given c.requires)

pub invariant_of-result : goal.invariant_of-result
invariant_of-result c =
    let says = each_says c.args.self.now.kept c.args.given c.requires in
    record { closed = rows_closed _ _ _ _ says.start says.states c.in_ok-rows.ensures says.closed }

pub returns : goal.returns
returns c = grind (arith, each_says c.args.self.now.kept c.args.given c.requires, rows_same)
