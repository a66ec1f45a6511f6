use Rattle.std.proofs.Common.{vec_items}
use Rattle.boards.specs.Meanings.{Same}
use Rattle.table_board.specs.Policies.{laid_out}
use Rattle.table_board.specs.Building.{meant}
use Rattle.table_board.proofs.building.Source.made_policies.Given as goal

abbrev pub invariant-loop-given : goal.invariant-loop-given
invariant-loop-given l = Same (laid_out (vec_items l.made)) (record { count = l.given-index; automaton = (meant l.self).automaton })
