use Rattle.std.proofs.Common.{arith}
use Rattle.texts.proofs.Numbers.{same_number}
use Rattle.texts.proofs.Fields.{no_field, space, line_end}
use Rattle.texts.proofs.line.edge_line.Goals as goal

pub returns-in_err-from : goal.returns-in_err-from
returns-in_err-from c = grind (arith, same_number, no_field c.in_err-from.ensures, space, line_end)

pub returns-in_err-event : goal.returns-in_err-event
returns-in_err-event c = grind (arith, same_number, no_field c.in_err-event.ensures, space, line_end)

pub returns-in_err-to : goal.returns-in_err-to
returns-in_err-to c = grind (arith, same_number, no_field c.in_err-to.ensures, space, line_end)
