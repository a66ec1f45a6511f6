use Rattle.texts.proofs.Places.{Searched}
use Rattle.texts.proofs.calls.node_place.Given as goal

abbrev pub invariant-loop-at : goal.invariant-loop-at
invariant-loop-at l = Searched l.text l.n l.at-iterator
