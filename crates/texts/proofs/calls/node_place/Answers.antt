use Rattle.std.proofs.Common.{sym, ◌∙◌, rules}
use Rattle.texts.proofs.Places.{searched_none, searched_more, searched_all}
use Rattle.texts.proofs.calls.node_place.Goals as goal

pub loop-at-init : goal.loop-at-init
loop-at-init c = searched_none (search rules) (search rules)

pub loop-at-preserved : goal.loop-at-preserved
loop-at-preserved c =
    searched_more c.loop-at.invariant c.next.new.self c.in-Some.at c.in-Some.line c.in-Some.ensures.steps (sym c.is_line_of.ensures ∙ c.if-is_line_of.false)

pub returns : goal.returns
returns c room all whole lt = absurd (searched_all c.loop-at.invariant c.in-None.ensures.steps.0 room all whole lt)
