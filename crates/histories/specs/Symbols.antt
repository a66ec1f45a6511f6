-- The symbols of a history. Assumes nothing.
use Rattle.std.specs.Prelude.{ℕ, ◌+◌, ◌<◌, if◌then◌else◌, List, [], ◌∷◌, ◌==◌, nat_lt}

-- an event is itself; the opening and the closing of policy p are
unfoldable pub opening : ℕ → ℕ
opening p = 256 + p

unfoldable pub closing : ℕ → ℕ
closing p = 512 + p

-- the events of a history, in turn: what is left of it without openings and closings
unfoldable pub events : List ℕ → List ℕ
events [] = []
events (s ∷ w) = if nat_lt s 256 then s ∷ events w else events w

-- how often a symbol stands in a history
unfoldable pub occurrences : ℕ → List ℕ → ℕ
occurrences s [] = 0
occurrences s (x ∷ w) = if x == s then 1 + occurrences s w else occurrences s w

-- a history leaves policy p open: its opening stands there more often than its closing
abbrev pub LeavesOpen : ℕ → List ℕ → Type 0
LeavesOpen p w = occurrences (closing p) w < occurrences (opening p) w
