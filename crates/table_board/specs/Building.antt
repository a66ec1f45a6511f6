-- What the parts of a board say that is built from records. Assumes nothing.
use Rattle.std.specs.Prelude.{◌≡◌, ℕ, ◌<◌, List, length, slice_index_or}
use Rattle.histories.specs.Automata.{Automaton}
use Rattle.boards.specs.Meanings.{Meaning}
use Rattle.boards.specs.Tables.{tabled}
use Rattle.table_board.specs.declared.building.Source.{Source}
use Rattle.table_board.specs.declared.rows.Row.{Row}
use Rattle.table_board.specs.Rows.{row_at}

-- what the records mean
abbrev pub meant : Source → Meaning
meant source = tabled source.policies.now source.bads.now source.edges.now

-- the row of an automaton's state
pub record IsRowOf (a : Automaton) (q : ℕ) (row : Row) : Type 0 where
  pub whole : length row.next ≡ 256
  pub offends : row.offends ≡ a.offends q
  pub next : (e : ℕ) → e < 256 → slice_index_or row.next e q ≡ a.next q e

-- a row for each of the first n states
pub record AreRowsOf (a : Automaton) (n : ℕ) (rows : List Row) : Type 0 where
  pub many : length rows ≡ n
  pub each : (q : ℕ) → q < n → IsRowOf a q (row_at rows q)
