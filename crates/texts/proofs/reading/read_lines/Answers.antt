use Rattle.std.proofs.Common.{rules}
use Rattle.std.proofs.lemmas.Result.{err_from_is_err_and}
use Rattle.texts.proofs.Turns.{read_more, read_none, refused_rule}
use Rattle.texts.proofs.reading.read_lines.Goals as goal

pub loop-at-init : goal.loop-at-init
loop-at-init c = search (rules, read_none)

pub loop-at-preserved : goal.loop-at-preserved
loop-at-preserved c =
    let next = rw c.in_ok-line.ensures.ok_part at c.in-Some.ensures.steps in
    read_more c.loop-at.invariant next c.in_ok-add.ensures.answer c.in_ok-add.ensures.put

pub returns-in_err-add-clause-reads : goal.returns-in_err-add-clause-reads
returns-in_err-add-clause-reads c =
    let p = err_from_is_err_and c.from_residual-in_err-add.result c.from_residual-in_err-add.ensures.1 in
    let next = rw c.in_ok-line.ensures.ok_part at c.in-Some.ensures.steps in
    rw (p.1, p.2) (refused_rule c.loop-at.invariant next c.in_err-add.ensures.answer c.in_err-add.ensures.put)
