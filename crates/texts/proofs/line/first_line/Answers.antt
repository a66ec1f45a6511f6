use Rattle.std.proofs.Common.{rules}
use Rattle.texts.proofs.Lines.{first_of_eight}
use Rattle.texts.proofs.line.first_line.Goals as goal

pub returns : goal.returns
returns c =
    first_of_eight c.args.text.now _ _ _ _ _ _ _ _ _ _ _ _ _ _ _ c.node_line.ensures
    c.or_else.ensures (λ called. search rules)
    c.or_else-2.ensures (λ called. search rules)
    c.or_else-3.ensures (λ called. search rules)
    c.or_else-4.ensures (λ called. search rules)
    c.or_else-5.ensures (λ called. search rules)
    c.or_else-6.ensures (λ called. search rules)
    c.or_else-7.ensures (λ called. search rules)
