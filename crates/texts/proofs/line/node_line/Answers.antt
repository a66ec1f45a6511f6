use Rattle.std.proofs.Common.{arith}
use Rattle.texts.proofs.Numbers.{same_number}
use Rattle.texts.proofs.Fields.{no_field, space, line_end}
use Rattle.texts.proofs.Lines.{same_letter}
use Rattle.texts.proofs.line.node_line.Goals as goal

pub returns-in_err-kind : goal.returns-in_err-kind
returns-in_err-kind c = grind (arith, same_number, c.in_err-kind.ensures, space)

pub returns-in_err-a : goal.returns-in_err-a
returns-in_err-a c = grind (arith, same_number, no_field c.in_err-a.ensures, space)

pub returns-in_err-b : goal.returns-in_err-b
returns-in_err-b c = grind (arith, same_number, no_field c.in_err-b.ensures, space, line_end)

pub returns-then-not-unused_are_zero : goal.returns-then-not-unused_are_zero
returns-then-not-unused_are_zero c = grind (arith, same_number c.in_ok-node.node, same_number c.in_ok-a.a, same_number c.in_ok-b.b, same_letter c.in_ok-kind.kind, space, line_end)
