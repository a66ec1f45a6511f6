-- Laws of histories. Assumes nothing.
use Rattle.std.specs.Prelude.{◌≡◌, ℕ, ◌<◌, ◌≤◌, List, ◌++◌}
use Rattle.jobs.specs.declared.node.Node.{Node}
use Rattle.jobs.specs.Placed.{Sound}
use Rattle.histories.specs.Symbols.{opening, closing, occurrences}
use Rattle.histories.specs.Histories.{Complete, Started}

-- a complete history is a started one
abbrev pub CompleteIsStarted : Type 0
CompleteIsStarted = (nodes : List Node) (bodies : List ℕ) (n : ℕ) (w : List ℕ) → Complete nodes bodies n w → Started nodes bodies n w

-- what begins a started history is a started history
abbrev pub BeginningIsStarted : Type 0
BeginningIsStarted = (nodes : List Node) (bodies : List ℕ) (n : ℕ) (u v : List ℕ) → Started nodes bodies n (u ++ v) → Started nodes bodies n u

-- in a table, a complete history closes each policy as often as it opens it
abbrev pub CompleteIsBalanced : Type 0
CompleteIsBalanced =
    (nodes : List Node) (bodies : List ℕ) → Sound nodes bodies → (p n : ℕ) (w : List ℕ) → p < 8 → Complete nodes bodies n w → occurrences (opening p) w ≡ occurrences (closing p) w

-- in a table, a started history closes no policy more often than it opens it
abbrev pub StartedIsOpenedFirst : Type 0
StartedIsOpenedFirst =
    (nodes : List Node) (bodies : List ℕ) → Sound nodes bodies → (p n : ℕ) (w : List ℕ) → p < 8 → Started nodes bodies n w → occurrences (closing p) w ≤ occurrences (opening p) w
