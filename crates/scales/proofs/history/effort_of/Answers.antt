use Rattle.std.proofs.Common.{arith}
use Rattle.scales.proofs.Joins.{effort-event, effort-more, effort-nil, effort-no_event}
use Rattle.scales.proofs.history.effort_of.Goals as goal

pub loop-symbol-init : goal.loop-symbol-init
loop-symbol-init g c = grind (arith, effort-nil g.met.S.Scale.keeps)

pub loop-symbol-preserved : goal.loop-symbol-preserved
loop-symbol-preserved g c =
    let laws = g.met.S.Scale.keeps in
    grind (arith, effort-more laws c.args.costs.now, effort-event laws c.args.costs.now, effort-no_event laws c.args.costs.now, laws.neutral_behind)
