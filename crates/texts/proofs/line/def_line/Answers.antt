use Rattle.std.proofs.Common.{arith}
use Rattle.texts.proofs.Numbers.{same_number}
use Rattle.texts.proofs.Fields.{no_field, space, line_end}
use Rattle.texts.proofs.line.def_line.Goals as goal

pub returns-in_err-node : goal.returns-in_err-node
returns-in_err-node c = grind (arith, same_number, no_field c.in_err-node.ensures, space, line_end)
