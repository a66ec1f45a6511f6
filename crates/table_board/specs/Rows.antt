-- What the rows of a policy mean. Assumes nothing.
use Rattle.std.specs.Prelude.{ℕ, false, List, [], length, slice_index_or}
use Rattle.histories.specs.Automata.{Automaton}
use Rattle.table_board.specs.declared.rows.Row.{Row}

abbrev pub row_at : List Row → ℕ → Row
row_at rows q = slice_index_or rows q (record { offends = false; next = [] })

-- from a start, with a row for each state
abbrev pub automaton : ℕ → List Row → Automaton
automaton start rows = record {
  states = length rows;
  start = start;
  offends = λ q. (row_at rows q).offends;
  next = λ q e. slice_index_or (row_at rows q).next e q;
}
