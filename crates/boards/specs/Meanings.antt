-- What a board means: some policies, each with an automaton over events. Assumes nothing.
use Rattle.std.specs.Prelude.{◌≡◌, ℕ, ◌<◌, ◌≤◌, Bool, ◌&&◌, List, Option, nat_lt}
use Rattle.std.specs.Bool.{then_some}
use Rattle.histories.specs.Automata.{Automaton, Offends, run}

-- the policies are those below the count
pub record Meaning : Type 0 where
  pub count : ℕ
  pub automaton : ℕ → Automaton

-- 1 to 8 states; the start is one of them, and whatever is read in a state leads to a state
pub record Closed (a : Automaton) : Type 0 where
  pub some : 1 ≤ a.states
  pub few : a.states ≤ 8
  pub starts : a.start < a.states
  pub stays : (q e : ℕ) → q < a.states → a.next q e < a.states

-- 0 to 8 policies, each with such an automaton
pub record Sound (m : Meaning) : Type 0 where
  pub few : m.count ≤ 8
  pub closed : (p : ℕ) → p < m.count → Closed (m.automaton p)

-- What is answered about a policy and about a policy's state: nothing where it is not there.
abbrev pub states_of : Meaning → ℕ → Option ℕ
states_of m p = then_some (nat_lt p m.count) (m.automaton p).states

abbrev pub start_of : Meaning → ℕ → Option ℕ
start_of m p = then_some (nat_lt p m.count) (m.automaton p).start

abbrev pub about_state : {X : Type 0} → Meaning → ℕ → ℕ → X → Option X
about_state m p q x = then_some (nat_lt p m.count && nat_lt q (m.automaton p).states) x

abbrev pub offends_of : Meaning → ℕ → ℕ → Option Bool
offends_of m p q = about_state m p q ((m.automaton p).offends q)

-- the next state, and whether it offends
abbrev pub moved : Automaton → ℕ → ℕ → ℕ × Bool
moved a q e = (a.next q e, a.offends (a.next q e))

abbrev pub step_of : Meaning → ℕ → ℕ → ℕ → Option (ℕ × Bool)
step_of m p q e = about_state m p q (moved (m.automaton p) q e)

-- the state of a policy after some events, from its start
abbrev pub state_after : Meaning → ℕ → List ℕ → Option ℕ
state_after m p es = then_some (nat_lt p m.count) (run (m.automaton p) (m.automaton p).start es)

-- a history offends a policy of the board after a list of events
pub record OffendsOn (m : Meaning) (p : ℕ) (past w : List ℕ) : Type 0 where
  pub there : p < m.count
  pub offends : Offends (m.automaton p) p past w

-- two automata are alike at every state that is there
pub record SameAutomaton (a b : Automaton) : Type 0 where
  pub states : a.states ≡ b.states
  pub start : a.start ≡ b.start
  pub offends : (q : ℕ) → q < b.states → a.offends q ≡ b.offends q
  pub next : (q e : ℕ) → q < b.states → e < 256 → a.next q e ≡ b.next q e

-- two meanings are alike at every policy that is there
pub record Same (m k : Meaning) : Type 0 where
  pub count : m.count ≡ k.count
  pub automaton : (p : ℕ) → p < k.count → SameAutomaton (m.automaton p) (k.automaton p)
