-- Bounds of the efforts of a node's histories, found in some turns, and right once another turn adds nothing. Assumes nothing.
use Rattle.std.proofs.Common.{◌≡◌, ℕ, zero, suc, ◌<◌, Bool, true, false, cond, not, ◌&&◌, ◌||◌, eqb, ltb, ◌⊎◌, List, [], ◌∷◌, ◌++◌, length, get_or, Some, sym, ap, ◌∙◌, inr, arith}
use Rattle.std.specs.List.{slice_get}
use Rattle.std.proofs.lemmas.Option.{slice_get_within, get_or_from_slice_get}
use Rattle.std.proofs.lemmas.Bool.Decides.{nat_tests}
use Rattle.std.proofs.lemmas.Bool.{ltb-true, and_parts}
use Rattle.jobs.specs.declared.node.Node.{Node}
use Rattle.jobs.specs.declared.node.Node.TheVariants.{Empty, Event, Seq, Choice, Frame, Call}
use Rattle.jobs.specs.Placed.{Sound}
use Rattle.histories.specs.Symbols.{opening, closing, events, LeavesOpen}
use Rattle.histories.specs.Automata.{Automaton, run, OffendsFrom}
use Rattle.histories.specs.Histories.{Complete, Started}
use Rattle.histories.proofs.Counts.{occurrences-nil, run-nil, events-nil, state-++, state-event, events-opening, events-framed}
use Rattle.histories.proofs.Places.{event_low, policy_low}
use Rattle.histories.proofs.Beginnings.{complete_node}
use Rattle.histories.proofs.Balance.{Balanced, complete_balanced}
use Rattle.histories.proofs.Framings.{open_behind, open_inside}
use Rattle.scales.specs.Measures.{Measure, Laws}
use Rattle.scales.specs.Efforts.{price, effort}
use Rattle.scales.proofs.Joins.{reflexive, effort-++, effort-nil, effort-event, effort-opening, effort-framed}
use Rattle.cases.specs.Verdicts.{Setting}
use Rattle.cases.proofs.Ends.{Ends, behind, Covers, covers, every, covers_first, covers_second, covers_same, covers_behind, every_at, through}

-- a test at each number below a bound
abbrev pub all_below : ℕ → (ℕ → Bool) → Bool
all_below zero f = true
all_below (suc n) f = f n && all_below n f

pub all_below_at : (n : ℕ) (f : ℕ → Bool) → all_below n f ≡ true → (k : ℕ) → k < n → f k ≡ true
all_below_at zero f h k lt = absurd (omega arith)
all_below_at (suc n) f h k lt = grind (arith, all_below_at n f)

module _ {S : Type 0} (m : Measure S) (s : Setting) (p : ℕ) where
  abbrev automaton : Automaton
  automaton = s.board.automaton p

  -- the states after the complete histories of a node from a state, given those of all nodes
  abbrev ends_by : (ℕ → ℕ → Ends m) → Node → ℕ → Ends m
  ends_by t Empty q = (q, m.nothing) ∷ []
  ends_by t (Event e) q = (automaton.next q e, price m s.costs e) ∷ []
  ends_by t (Seq l r) q = behind m (t l q) (t r)
  ends_by t (Choice l r) q = t l q ++ t r q
  ends_by t (Frame p' i) q = t i q
  ends_by t (Call d) q = t (get_or s.bodies d 0) q

  abbrev ends : ℕ → ℕ → ℕ → Ends m
  ends zero n q = []
  ends (suc turns) n q = ends_by (ends turns) (get_or s.nodes n Empty) q

  -- the states after the started histories that have the policy open, given whether it is before, and given those of all nodes
  abbrev opens_by : (ℕ → ℕ → Ends m) → (ℕ → ℕ → Bool → Ends m) → Node → ℕ → Bool → Ends m
  opens_by t o Empty q f = []
  opens_by t o (Event e) q f = []
  opens_by t o (Seq l r) q f = o l q f ++ behind m (t l q) (λ k. o r k f)
  opens_by t o (Choice l r) q f = o l q f ++ o r q f
  opens_by t o (Frame p' i) q f = o i q (f || eqb p' p)
  opens_by t o (Call d) q f = o (get_or s.bodies d 0) q f

  abbrev opens_all : (ℕ → ℕ → Ends m) → (ℕ → ℕ → Bool → Ends m) → Node → ℕ → ℕ → Bool → Ends m
  opens_all t o x n q f = cond f ((q, m.nothing) ∷ t n q) [] ++ opens_by t o x q f

  abbrev pub opens : ℕ → ℕ → ℕ → Bool → Ends m
  opens zero n q f = []
  opens (suc turns) n q f = opens_all (ends turns) (opens turns) (get_or s.nodes n Empty) n q f

  module _ (turns : ℕ) where
    -- one turn more finds nothing lower
    abbrev settled_at : Node → ℕ → ℕ → Bool
    settled_at x n q =
        every m (λ k y. ltb k automaton.states) (ends turns n q)
        && (every m (covers m (ends turns n q)) (ends_by (ends turns) x q)
        && (every m (covers m (opens turns n q true)) (opens_all (ends turns) (opens turns) x n q true)
        && every m (covers m (opens turns n q false)) (opens_all (ends turns) (opens turns) x n q false)))

    abbrev pub settled : Bool
    settled = ltb p 8 && all_below (length s.nodes) (λ n. all_below automaton.states (settled_at (get_or s.nodes n Empty) n))

    record Rules (x : Node) (n q : ℕ) : Type 0 where
      range : every m (λ k y. ltb k automaton.states) (ends turns n q) ≡ true
      complete : every m (covers m (ends turns n q)) (ends_by (ends turns) x q) ≡ true
      started : (f : Bool) → every m (covers m (opens turns n q f)) (opens_all (ends turns) (opens turns) x n q f) ≡ true

    rules_at : (x : Node) (n q : ℕ) → settled_at x n q ≡ true → Rules x n q
    rules_at x n q h = record { range = grind arith; complete = grind arith; started = λ f. grind arith }

    module _ (ok : settled ≡ true) (table : Sound s.nodes s.bodies) (laws : Laws m) where
      rules : {x : Node} {n q : ℕ} → slice_get s.nodes n ≡ Some x → q < automaton.states → Rules x n q
      rules {x} {n} {q} e lt =
          let row = all_below_at (length s.nodes) _ (and_parts (ltb p 8) _ ok).1 n (slice_get_within s.nodes n x e) in
          let cell = all_below_at automaton.states (settled_at (get_or s.nodes n Empty) n) row q lt in
          rules_at x n q (rw (get_or_from_slice_get s.nodes n x Empty e) at cell)

      abbrev Reached : Ends m → ℕ → List ℕ → Type 0
      Reached es q w = Covers m es (run automaton q (events w)) (effort m s.costs w)

      nothing_reached : (es : Ends m) (q : ℕ) → Reached ((q, m.nothing) ∷ es) q []
      nothing_reached es q = covers_same m (ap (run automaton q) events-nil ∙ run-nil automaton q) (effort-nil laws s.costs) (Covers.here (reflexive laws _))

      join_reached : {es : Ends m} (f : ℕ → Ends m) (q : ℕ) (u v : List ℕ) → Reached es q u → Reached (f (run automaton q (events u))) (run automaton q (events u)) v → Reached (behind m es f) q (u ++ v)
      join_reached f q u v a b = covers_same m (state-++ automaton q u v) (effort-++ laws s.costs u v) (covers_behind m laws f a b)

      within : {n : ℕ} (q : ℕ) (u : List ℕ) → Complete s.nodes s.bodies n u → q < automaton.states → Reached (ends turns n q) q u → run automaton q (events u) < automaton.states
      within q u a lt t = ltb-true _ _ (every_at m (λ k y. ltb k automaton.states) (rules (complete_node a).1 lt).range t).2

      -- what a turn finds is listed
      listed : {x : Node} (n q : ℕ) {k : ℕ} {y : S} → slice_get s.nodes n ≡ Some x → q < automaton.states → Covers m (ends_by (ends turns) x q) k y → Covers m (ends turns n q) k y
      listed n q e lt t = through m laws (rules e lt).complete t

      -- the state after a complete history is listed, with a bound of its effort
      complete_reached : {n : ℕ} {w : List ℕ} (q : ℕ) → Complete s.nodes s.bodies n w → q < automaton.states → Reached (ends turns n q) q w
      complete_reached q (Complete.empty e) lt = listed _ q e lt (nothing_reached [] q)
      complete_reached q (Complete.event {n} {e = i} e) lt =
          let small = event_low table n i e in
          listed _ q e lt (covers_same m (state-event automaton q i small) (effort-event laws s.costs i small) (Covers.here {es = []} (reflexive laws _)))
      complete_reached q (Complete.sequence {r} {u} {v} e a b) lt =
          let first = complete_reached q a lt in
          listed _ q e lt (join_reached (ends turns r) q u v first (complete_reached _ b (within q u a lt first)))
      complete_reached q (Complete.left {r} e a) lt = listed _ q e lt (covers_first m (ends turns r q) (complete_reached q a lt))
      complete_reached q (Complete.right {l} e a) lt = listed _ q e lt (covers_second m (ends turns l q) (complete_reached q a lt))
      complete_reached q (Complete.framed {p = i} {u} e a) lt =
          covers_same m (ap (run automaton q) (events-framed i u)) (effort-framed laws s.costs i u) (listed _ q e lt (complete_reached q a lt))
      complete_reached q (Complete.called {d} {b} {u} e h a) lt =
          listed _ q e lt (rw (get_or_from_slice_get s.bodies d b 0 h) (complete_reached q a lt))

      -- the policy is open after a history, given whether it is before
      abbrev OpenAfter : Bool → List ℕ → Type 0
      OpenAfter f w = (f ≡ true) ⊎ LeavesOpen p w

      low : p < 8
      low = grind (arith, nat_tests)

      -- what is balanced leaves it as it was
      was_open : (f : Bool) (w : List ℕ) → Balanced p w → OpenAfter f w → f ≡ true
      was_open f w b o = grind arith

      open_rest : (f : Bool) (u v : List ℕ) → Balanced p u → OpenAfter f (u ++ v) → OpenAfter f v
      open_rest f u v b o = grind (arith, open_behind p u v b)

      open_part : (f : Bool) (i : ℕ) (u : List ℕ) → i < 8 → OpenAfter f (opening i ∷ u) → OpenAfter (f || eqb i p) u
      open_part f i u few o = grind (arith, open_inside p i u few)

      was_reached : {x : Node} (n q : ℕ) (f : Bool) (w : List ℕ) → slice_get s.nodes n ≡ Some x → q < automaton.states → Balanced p w → OpenAfter f w → Reached ((q, m.nothing) ∷ ends turns n q) q w → Reached (opens turns n q f) q w
      was_reached {x} n q f w e lt b o t =
          let before : Reached (cond f ((q, m.nothing) ∷ ends turns n q) []) q w = rw (was_open f w b o) t in
          through m laws ((rules e lt).started f) (covers_first m (opens_by (ends turns) (opens turns) x q f) before)

      part_reached : {x : Node} (n q : ℕ) (f : Bool) (w : List ℕ) → slice_get s.nodes n ≡ Some x → q < automaton.states → Reached (opens_by (ends turns) (opens turns) x q f) q w → Reached (opens turns n q f) q w
      part_reached n q f w e lt t = through m laws ((rules e lt).started f) (covers_second m (cond f ((q, m.nothing) ∷ ends turns n q) []) t)

      -- the state after a started history that has the policy open is listed, with a bound of its effort
      started_reached : {n : ℕ} {w : List ℕ} (q : ℕ) (f : Bool) → Started s.nodes s.bodies n w → q < automaton.states → OpenAfter f w → Reached (opens turns n q f) q w
      started_reached q f (Started.nothing {n} e) lt o =
          was_reached _ q f [] e lt (occurrences-nil (opening p) ∙ sym (occurrences-nil (closing p))) o (nothing_reached (ends turns n q) q)
      started_reached q f (Started.event {e = i} e) lt o =
          was_reached _ q f (i ∷ []) e lt (complete_balanced table p low (Complete.event e)) o (Covers.there (complete_reached q (Complete.event e) lt))
      started_reached q f (Started.first {l} {r} {u} e a) lt o =
          part_reached _ q f u e lt (covers_first m (behind m (ends turns l q) (λ k. opens turns r k f)) (started_reached q f a lt o))
      started_reached q f (Started.second {l} {r} {u} {v} e a b) lt o =
          let first = complete_reached q a lt in
          let rest = started_reached _ f b (within q u a lt first) (open_rest f u v (complete_balanced table p low a) o) in
          part_reached _ q f (u ++ v) e lt (covers_second m (opens turns l q f) (join_reached (λ k. opens turns r k f) q u v first rest))
      started_reached q f (Started.left {r} {u} e a) lt o = part_reached _ q f u e lt (covers_first m (opens turns r q f) (started_reached q f a lt o))
      started_reached q f (Started.right {l} {u} e a) lt o = part_reached _ q f u e lt (covers_second m (opens turns l q f) (started_reached q f a lt o))
      started_reached q f (Started.opened {n} {p = i} {m = j} {u} e a) lt o =
          let part = started_reached q (f || eqb i p) a lt (open_part f i u (policy_low table n i j e) o) in
          covers_same m (ap (run automaton q) (events-opening i u)) (effort-opening laws s.costs i u) (part_reached _ q f u e lt part)
      started_reached q f (Started.framed {u} e a) lt o = was_reached _ q f u e lt (complete_balanced table p low a) o (Covers.there (complete_reached q a lt))
      started_reached q f (Started.called {d} {b} {u} e h a) lt o =
          part_reached _ q f u e lt (rw (get_or_from_slice_get s.bodies d b 0 h) (started_reached q f a lt o))

      -- what holds of all bounds at offending states holds at or below the effort of each history that offends
      pub offends_above : (n q : ℕ) (g : S → Bool) → every m (λ k x. not (automaton.offends k) || g x) (opens turns n q false) ≡ true → q < automaton.states → (w : List ℕ) → Started s.nodes s.bodies n w → OffendsFrom automaton p q w → (x : S) × (m.at_most x (effort m s.costs w) ≡ true) × (g x ≡ true)
      offends_above n q g h lt w a o =
          let (x, less, test) = every_at m (λ k x. not (automaton.offends k) || g x) h (started_reached q false a lt (inr o.opens)) in
          (x, less, rw o.stands at test)
