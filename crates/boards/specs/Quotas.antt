-- What a quota board means. Assumes nothing.
use Rattle.std.specs.Prelude.{ℕ, ◌+◌, min, Bool, false, if◌then◌else◌, List, ◌==◌, slice_index_or}
use Rattle.histories.specs.Automata.{Automaton}
use Rattle.boards.specs.Meanings.{Meaning}

-- Its states are 0, the start, to k + 1; a marked event adds one up to k + 1, and only k + 1 offends.
abbrev pub counter : ℕ → List Bool → Automaton
counter k marked = record {
  states = k + 2;
  start = 0;
  offends = λ q. (q == k + 1);
  next = λ q e. if slice_index_or marked e false then min (q + 1) (k + 1) else q;
}

-- one policy
abbrev pub quota : ℕ → List Bool → Meaning
quota k marked = record { count = 1; automaton = λ _. counter k marked }
