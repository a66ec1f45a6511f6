-- What an ordered board means. Assumes nothing.
use Rattle.std.specs.Prelude.{ℕ, if◌then◌else◌, ◌==◌}
use Rattle.histories.specs.Automata.{Automaton}
use Rattle.boards.specs.Meanings.{Meaning}

-- where an event leads from state 0: `first` to 1, else `second` to 2, and any other one stays
abbrev pub led : ℕ → ℕ → ℕ → ℕ
led first second e = if e == first then 1 else if e == second then 2 else 0

-- In state 0, the start, `first` has not come; in 1 it has come; in 2, which alone offends, `second` came too early. Nothing leads away from
-- 1 and 2.
abbrev pub order : ℕ → ℕ → Automaton
order first second = record {
  states = 3;
  start = 0;
  offends = λ q. (q == 2);
  next = λ q e. if q == 0 then led first second e else q;
}

-- one policy
abbrev pub ordered : ℕ → ℕ → Meaning
ordered first second = record { count = 1; automaton = λ _. order first second }
