-- What boards made of boards mean. Assumes nothing.
use Rattle.std.specs.Prelude.{ℕ, ◌+◌, ◌-◌, min, if◌then◌else◌, List, nat_lt, slice_index}
use Rattle.histories.specs.Automata.{Automaton}
use Rattle.boards.specs.Meanings.{Meaning}

-- the policies of the first, then those of the second, cut after eight in all
abbrev pub joined : Meaning → Meaning → Meaning
joined a b = record {
  count = min 8 (a.count + b.count);
  automaton = λ p. if nat_lt p a.count then a.automaton p else b.automaton (p - a.count);
}

-- each event is read as the one that the map gives for it
abbrev pub renamed : List ℕ → Automaton → Automaton
renamed map a = record {
  states = a.states;
  start = a.start;
  offends = a.offends;
  next = λ q e. a.next q (slice_index map e);
}

abbrev pub translated : List ℕ → Meaning → Meaning
translated map m = record { count = m.count; automaton = λ p. renamed map (m.automaton p) }
