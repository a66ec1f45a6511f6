use Rattle.std.proofs.Common.{arith}
use Rattle.table_board.proofs.Fits.{tabled_sound}
use Rattle.table_board.proofs.table.TableBoard.from_records.Goals as goal

pub invariant_of-result : goal.invariant_of-result
invariant_of-result c = omega (arith, c.in_ok-made_policies.ensures.count, (tabled_sound c.in_ok-source.source.kept).few)
