-- Runs of a board's automata. Assumes nothing.
use Rattle.std.proofs.Common.{◌≡◌, ℕ, ◌+◌, ◌<◌, Bool, List, [], ◌∷◌, length, get_or, take, Some, arith}
use Rattle.std.proofs.lemmas.List.{take_more}
use Rattle.histories.specs.Automata.{Automaton, run}
use Rattle.histories.proofs.Counts.{run-nil, run-push}
use Rattle.boards.specs.Meanings.{Meaning, Closed, Sound, start_of, step_of}

-- what a step that answered says
pub step_gives : (m : Meaning) (p q e n : ℕ) (f : Bool) → Some (n, f) ≡ step_of m p q e → (p < m.count) × (q < (m.automaton p).states) × (n ≡ (m.automaton p).next q e) × (f ≡ (m.automaton p).offends n)
step_gives m p q e n f h = grind arith

-- the automaton of p stands at q, a state of it, after the first i of some events
pub record Stands (m : Meaning) (p : ℕ) (es : List ℕ) (i q : ℕ) : Type 0 where
  pub policy : p < m.count
  pub state : q < (m.automaton p).states
  pub reached : q ≡ run (m.automaton p) (m.automaton p).start (take i es)

-- one event more
pub stands_more : (m : Meaning) → Sound m → (p : ℕ) (es : List ℕ) (i q e n : ℕ) (f : Bool) → Stands m p es i q → i < length es → e ≡ get_or es i 0 → Some (n, f) ≡ step_of m p q e → Stands m p es (i + 1) n
stands_more m sound p es i q e n f now within read stepped = record {
  policy = now.policy;
  state = grind (arith, sound.closed p now.policy);
  reached = grind (arith, take_more es i 0 within, run-push);
}

-- a run stays among the states
pub run-stays : (a : Automaton) → Closed a → (q : ℕ) (es : List ℕ) → q < a.states → run a q es < a.states
unfolding run
run-stays a closed q [] inside = inside
run-stays a closed q (e ∷ es) inside = run-stays a closed (a.next q e) es (closed.stays q e inside)

-- before the first event the automaton stands at its start
pub stands_first : (m : Meaning) → Sound m → (p : ℕ) (es : List ℕ) (q : ℕ) → Some q ≡ start_of m p → Stands m p es 0 q
stands_first m sound p es q h = record { policy = grind arith; state = grind (arith, sound.closed p); reached = grind (arith, run-nil) }
