use Rattle.std.proofs.Common.{◌≡◌, take}
use Rattle.scales.specs.Efforts.{effort}
use Rattle.scales.proofs.history.effort_of.Given as goal

abbrev pub invariant-loop-symbol : goal.invariant-loop-symbol
invariant-loop-symbol g l = l.total ≡ effort g.S.Scale.measure l.costs (take l.symbol-index l.history)
