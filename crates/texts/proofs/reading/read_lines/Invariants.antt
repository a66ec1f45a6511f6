use Rattle.texts.proofs.Turns.{ReadSoFar}
use Rattle.texts.proofs.reading.read_lines.Given as goal

abbrev pub invariant-loop-at : goal.invariant-loop-at
invariant-loop-at l = ReadSoFar l.text l.initial.store l.at-iterator l.store
