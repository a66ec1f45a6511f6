-- Events, occurrences and runs of joined histories. Assumes nothing.
use Rattle.std.proofs.Common.{◌≡◌, ℕ, ◌+◌, ◌<◌, ◌≤◌, cond, eqb, List, [], ◌∷◌, ◌++◌, refl, ap, ◌∙◌, append-nil, arith}
use Rattle.std.proofs.lemmas.Bool.Decides.{nat_tests}
use Rattle.std.proofs.lemmas.Bool.{lt-ltb, le-ltb}
use Rattle.histories.specs.Symbols.{opening, closing, events, occurrences}
use Rattle.histories.specs.Automata.{Automaton, run}

pub events-++ : (u v : List ℕ) → events (u ++ v) ≡ events u ++ events v
unfolding events
events-++ [] v = refl
events-++ (s ∷ u) v = grind (arith, events-++ u v)

pub occurrences-++ : (s : ℕ) (u v : List ℕ) → occurrences s (u ++ v) ≡ occurrences s u + occurrences s v
unfolding occurrences
occurrences-++ s [] v = omega arith
occurrences-++ s (x ∷ u) v = grind (arith, occurrences-++ s u v)

pub run-++ : (a : Automaton) (q : ℕ) (u v : List ℕ) → run a q (u ++ v) ≡ run a (run a q u) v
unfolding run
run-++ a q [] v = refl
run-++ a q (e ∷ u) v = run-++ a (a.next q e) u v

pub run-nil : (a : Automaton) (q : ℕ) → run a q [] ≡ q
unfolding run
run-nil a q = refl

pub run-one : (a : Automaton) (q e : ℕ) → run a q (e ∷ []) ≡ a.next q e
unfolding run
run-one a q e = refl

pub run-push : (a : Automaton) (q : ℕ) (es : List ℕ) (e : ℕ) → run a q (es ++ (e ∷ [])) ≡ a.next (run a q es) e
run-push a q es e = run-++ a q es (e ∷ []) ∙ run-one a (run a q es) e

-- an event is no opening and no closing
pub events-nil : events [] ≡ []
unfolding events
events-nil = refl

pub events-event : (e : ℕ) → e < 256 → events (e ∷ []) ≡ e ∷ []
unfolding events
events-event e h = rw (lt-ltb e 256 h)

pub events-opening : (p : ℕ) (w : List ℕ) → events (opening p ∷ w) ≡ events w
unfolding events opening
events-opening p w = let h : 256 ≤ 256 + p = omega arith in rw (le-ltb (256 + p) 256 h)

pub events-closing : (p : ℕ) (w : List ℕ) → events (closing p ∷ w) ≡ events w
unfolding events closing
events-closing p w = let h : 256 ≤ 512 + p = omega arith in rw (le-ltb (512 + p) 256 h)

-- a framed history has the events of what is framed
pub events-framed : (p : ℕ) (u : List ℕ) → events (opening p ∷ (u ++ (closing p ∷ []))) ≡ events u
unfolding events
events-framed p u =
    events-opening p (u ++ (closing p ∷ [])) ∙ events-++ u (closing p ∷ []) ∙ ap (λ (v : List ℕ). events u ++ v) (events-closing p []) ∙ append-nil (events u)

-- the state after the events of a history
pub state-++ : (a : Automaton) (q : ℕ) (u v : List ℕ) → run a q (events (u ++ v)) ≡ run a (run a q (events u)) (events v)
state-++ a q u v = ap (run a q) (events-++ u v) ∙ run-++ a q (events u) (events v)

pub state-event : (a : Automaton) (q e : ℕ) → e < 256 → run a q (events (e ∷ [])) ≡ a.next q e
state-event a q e h = ap (run a q) (events-event e h) ∙ run-one a q e

pub occurrences-nil : (s : ℕ) → occurrences s [] ≡ 0
unfolding occurrences
occurrences-nil s = refl

-- one symbol more
pub occurrences-cons : (s x : ℕ) (w : List ℕ) → occurrences s (x ∷ w) ≡ cond (eqb x s) 1 0 + occurrences s w
unfolding occurrences
occurrences-cons s x w = grind arith

pub occurrences-same : (s : ℕ) (w : List ℕ) → occurrences s (s ∷ w) ≡ 1 + occurrences s w
unfolding occurrences
occurrences-same s w = grind (arith, nat_tests)

pub occurrences-other : (s x : ℕ) (w : List ℕ) → (x ≡ s → ⊥) → occurrences s (x ∷ w) ≡ occurrences s w
unfolding occurrences
occurrences-other s x w h = grind (arith, nat_tests)

-- symbols of policies below 256 are apart, and apart from events
pub event_opening : (e p : ℕ) → e < 256 → e ≡ opening p → ⊥
unfolding opening
event_opening e p h q = omega arith

pub event_closing : (e p : ℕ) → e < 256 → e ≡ closing p → ⊥
unfolding closing
event_closing e p h q = omega arith

pub opening_closing : (p q : ℕ) → p < 256 → opening p ≡ closing q → ⊥
unfolding opening closing
opening_closing p q h e = omega arith

pub closing_opening : (p q : ℕ) → q < 256 → closing p ≡ opening q → ⊥
unfolding opening closing
closing_opening p q h e = omega arith

pub opening_apart : (p q : ℕ) → (p ≡ q → ⊥) → opening p ≡ opening q → ⊥
unfolding opening
opening_apart p q h e = h (omega arith)

pub closing_apart : (p q : ℕ) → (p ≡ q → ⊥) → closing p ≡ closing q → ⊥
unfolding closing
closing_apart p q h e = h (omega arith)

-- how often a policy's symbols stand in a history of one symbol
pub event_opens_none : (p e : ℕ) → e < 256 → occurrences (opening p) (e ∷ []) ≡ 0
unfolding opening
event_opens_none p e h = grind (arith, nat_tests, occurrences-cons (opening p) e [], occurrences-nil (opening p))

pub event_closes_none : (p e : ℕ) → e < 256 → occurrences (closing p) (e ∷ []) ≡ 0
unfolding closing
event_closes_none p e h = grind (arith, nat_tests, occurrences-cons (closing p) e [], occurrences-nil (closing p))

-- What an opening of q before a history adds for policy p: one opening where q is p, else nothing; and no closing.
pub opening_closes_none : (p q : ℕ) (w : List ℕ) → q < 256 → occurrences (closing p) (opening q ∷ w) ≡ occurrences (closing p) w
unfolding opening closing
opening_closes_none p q w h = grind (arith, nat_tests, occurrences-cons (closing p) (opening q) w)

pub opening_opens : (p q : ℕ) (w : List ℕ) → occurrences (opening p) (opening q ∷ w) ≡ cond (eqb q p) 1 0 + occurrences (opening p) w
unfolding opening
opening_opens p q w = grind (arith, nat_tests, occurrences-cons (opening p) (opening q) w)

-- What a closing of q adds.
pub closing_opens_none : (p q : ℕ) (w : List ℕ) → p < 256 → occurrences (opening p) (closing q ∷ w) ≡ occurrences (opening p) w
unfolding opening closing
closing_opens_none p q w h = grind (arith, nat_tests, occurrences-cons (opening p) (closing q) w)

pub closing_closes : (p q : ℕ) (w : List ℕ) → occurrences (closing p) (closing q ∷ w) ≡ cond (eqb q p) 1 0 + occurrences (closing p) w
unfolding closing
closing_closes p q w = grind (arith, nat_tests, occurrences-cons (closing p) (closing q) w)
