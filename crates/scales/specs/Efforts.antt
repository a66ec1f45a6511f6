-- The effort of a history. Assumes nothing.
use Rattle.std.specs.Prelude.{ℕ, List, [], ◌∷◌, slice_index}
use Rattle.histories.specs.Symbols.{events}
use Rattle.scales.specs.Measures.{Measure}

-- the effort of one event, by the costs of all events
abbrev pub price : {S : Type 0} → Measure S → List ℕ → ℕ → S
price m costs e = m.of_cost (slice_index costs e)

-- the costs of some events, joined in turn
unfoldable pub joined_costs : {S : Type 0} → Measure S → List ℕ → List ℕ → S
joined_costs m costs [] = m.nothing
joined_costs m costs (e ∷ es) = m.joined (price m costs e) (joined_costs m costs es)

-- a history's effort joins the costs of its events in turn
abbrev pub effort : {S : Type 0} → Measure S → List ℕ → List ℕ → S
effort m costs w = joined_costs m costs (events w)
