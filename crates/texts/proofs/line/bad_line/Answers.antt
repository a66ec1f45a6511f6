use Rattle.std.proofs.Common.{arith}
use Rattle.texts.proofs.Numbers.{same_number}
use Rattle.texts.proofs.Fields.{no_field, space, line_end}
use Rattle.texts.proofs.line.bad_line.Goals as goal

pub returns-in_err-state : goal.returns-in_err-state
returns-in_err-state c = grind (arith, same_number, no_field c.in_err-state.ensures, space, line_end)
