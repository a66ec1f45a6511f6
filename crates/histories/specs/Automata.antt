-- The automaton of a policy, and when a history offends the policy. Assumes nothing.
use Rattle.std.specs.Prelude.{◌≡◌, ℕ, Bool, true, List, [], ◌∷◌}
use Rattle.histories.specs.Symbols.{LeavesOpen, events}

-- how many states there are, where it starts, which states offend, and where an event leads from a state
pub record Automaton : Type 0 where
  pub states : ℕ
  pub start : ℕ
  pub offends : ℕ → Bool
  pub next : ℕ → ℕ → ℕ

-- where an automaton stands after a list of events, from a state
unfoldable pub run : Automaton → ℕ → List ℕ → ℕ
run a q [] = q
run a q (e ∷ es) = run a (a.next q e) es

-- From state q of its automaton a history offends policy p: it leaves p open, and its events lead to an offending state.
pub record OffendsFrom (a : Automaton) (p q : ℕ) (w : List ℕ) : Type 0 where
  pub opens : LeavesOpen p w
  pub stands : a.offends (run a q (events w)) ≡ true

-- A history offends policy p after a list of events: it does so from the state that the automaton reaches from its start over the list.
abbrev pub Offends : Automaton → ℕ → List ℕ → List ℕ → Type 0
Offends a p past w = OffendsFrom a p (run a a.start past) w
