use Rattle.std.proofs.Common.{arith}
use Rattle.texts.proofs.Numbers.{same_number}
use Rattle.texts.proofs.Fields.{no_field, space, line_end}
use Rattle.texts.proofs.line.policy_line.Goals as goal

pub returns-in_err-states : goal.returns-in_err-states
returns-in_err-states c = grind (arith, same_number, no_field c.in_err-states.ensures, space, line_end)

pub returns-in_err-start : goal.returns-in_err-start
returns-in_err-start c = grind (arith, same_number, no_field c.in_err-start.ensures, space, line_end)
