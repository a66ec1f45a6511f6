use Rattle.std.proofs.Common.{arith}
use Rattle.texts.proofs.Numbers.{same_number}
use Rattle.texts.proofs.Fields.{no_field, space, line_end}
use Rattle.texts.proofs.line.tariff_line.Goals as goal

pub returns-in_err-cost : goal.returns-in_err-cost
returns-in_err-cost c = grind (arith, same_number, no_field c.in_err-cost.ensures, space, line_end)
