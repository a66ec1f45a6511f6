-- The played cases hold: a test of a case, which computes, and what it shows. Assumes nothing.
use Rattle.std.proofs.Common.{◌≡◌, ℕ, Bool, true, false, not, ◌&&◌, ◌||◌, eqb, ltb, List, [], ◌∷◌, length, get_or, Some, refl, arith}
use Rattle.std.specs.List.{slice_get}
use Rattle.std.proofs.lemmas.Option.{slice_get_within}
use Rattle.std.proofs.lemmas.Bool.Decides.{nat_tests}
use Rattle.std.proofs.lemmas.Bool.{ltb-true, false≢true}
use Rattle.jobs.specs.declared.node.Node.TheVariants.{Empty}
use Rattle.jobs.specs.Placed.{Sound, placed}
use Rattle.histories.specs.Symbols.{opening, closing, events, occurrences}
use Rattle.histories.specs.Automata.{run}
use Rattle.histories.specs.Histories.{JobStarted}
use Rattle.boards.specs.Meanings.{OffendsOn}
use Rattle.scales.specs.declared.efforts.Sum.{Sum}
use Rattle.scales.specs.Efforts.{effort, joined_costs}
use Rattle.scales.specs.Scales.{sum, sum_of}
use Rattle.scales.specs.Costs.{same_cost, sum_laws}
use Rattle.cases.specs.Verdicts.{Setting, Case, Verdict, passes, offends, VerdictHolds, AllHold}
use Rattle.cases.specs.Played.{Played, setting, cases, nodes, bodies}
use Rattle.cases.proofs.Ends.{every}
use Rattle.cases.proofs.Bounds.{all_below, all_below_at, opens, settled, offends_above}
use Rattle.cases.proofs.Witness.{holds_of, holds_of_true, starts, starts_right}

-- a test of cases, with bounds and histories found in so many turns
module _ (s : Setting) (turns : ℕ) where
  abbrev state_after : ℕ → List ℕ → ℕ
  state_after p past = run (s.board.automaton p) (s.board.automaton p).start past

  -- another turn adds nothing to any policy's bounds
  abbrev all_settled : Bool
  all_settled = all_below s.board.count (λ p. settled sum s p turns)

  -- the test holds of the effort of all that offends the policy after the past
  abbrev bound_at : List ℕ → ℕ → (Sum → Bool) → ℕ → Bool
  bound_at past body g p =
      ltb (state_after p past) (s.board.automaton p).states
      && every sum (λ k x. not ((s.board.automaton p).offends k) || g x) (opens sum s p turns body (state_after p past) false)

  abbrev offends_checked : List ℕ → ℕ → List ℕ → Bool
  offends_checked past p w =
      ltb p s.board.count
      && (ltb (occurrences (closing p) w) (occurrences (opening p) w) && (s.board.automaton p).offends (run (s.board.automaton p) (state_after p past) (events w)))

  abbrev verdict_checked : List ℕ → Verdict → ℕ → Bool
  verdict_checked past passes body = all_below s.board.count (bound_at past body (λ x. false))
  verdict_checked past (offends p w cost) body =
      starts s.nodes s.bodies turns body w
      && (offends_checked past p w
      && (eqb (effort sum s.costs w).cost (sum_of cost).cost && all_below s.board.count (bound_at past body (sum.at_most (sum_of cost)))))

  abbrev all_pass : List Case → Bool
  all_pass [] = true
  all_pass (c ∷ cs) = holds_of (slice_get s.bodies c.job) (verdict_checked c.past c.verdict) && all_pass cs

  module _ (table : Sound s.nodes s.bodies) (ok : all_settled ≡ true) where
    -- then it holds at or below the effort of each history that offends
    above : (past : List ℕ) (job body : ℕ) (g : Sum → Bool) → slice_get s.bodies job ≡ Some body → all_below s.board.count (bound_at past body g) ≡ true → (p : ℕ) (w : List ℕ) → JobStarted s.nodes s.bodies job w → OffendsOn s.board p past w → (y : Sum) × (sum.at_most y (effort sum s.costs w) ≡ true) × (g y ≡ true)
    above past job body g named h p w j o =
        let here = all_below_at s.board.count (bound_at past body g) h p o.there in
        let good = all_below_at s.board.count (λ p. settled sum s p turns) ok p o.there in
        let same : j.body ≡ body = cc in
        offends_above sum s p turns good table sum_laws body (state_after p past) g (grind arith) (grind (arith, nat_tests)) w (rw same at j.started) o.offends

    offends_right : (past : List ℕ) (p : ℕ) (w : List ℕ) → offends_checked past p w ≡ true → OffendsOn s.board p past w
    offends_right past p w h = record { there = grind (arith, nat_tests); offends = record { opens = grind (arith, nat_tests); stands = grind arith } }

    verdict_right : (past : List ℕ) (job body : ℕ) (v : Verdict) → slice_get s.bodies job ≡ Some body → verdict_checked past v body ≡ true → VerdictHolds s past job v
    verdict_right past job body passes named h =
        record { there = slice_get_within s.bodies job body named; none = λ p w j o. false≢true (above past job body (λ x. false) named h p w j o).2 }
    verdict_right past job body (offends p w cost) named h = record {
      started = record { body = body; names = named; started = starts_right s.nodes s.bodies turns body w (grind arith) };
      offends = offends_right past p w (grind arith);
      costs = same_cost _ _ (grind (arith, nat_tests));
      least = λ p' w' j o. let (y, less, more) = above past job body (sum.at_most (sum_of cost)) named (grind arith) p' w' j o in sum_laws.transitive (sum_of cost) y (effort sum s.costs w') more less;
    }

    all_right : (cs : List Case) → all_pass cs ≡ true → AllHold s cs
    all_right [] h = tt
    all_right (c ∷ cs) h =
        let (body, named, here) = holds_of_true (slice_get s.bodies c.job) (verdict_checked c.past c.verdict) (grind arith) in
        (verdict_right c.past c.job body c.verdict named here, all_right cs (grind arith))

-- the nodes and bodies are those of a table
table : Sound nodes bodies
table = record {
  few = omega arith;
  defined = omega arith;
  placed = all_below_at (length nodes) (λ n. placed (get_or nodes n Empty) n (length bodies)) refl;
  exist = λ d lt. ltb-true _ _ (all_below_at (length bodies) (λ d. ltb (get_or bodies d 0) (length nodes)) refl d lt);
}

-- sixteen turns are enough for each node of the table
bounds_settled : all_settled setting 16 ≡ true
unfolding run events occurrences opening closing joined_costs
bounds_settled = refl

cases_pass : all_pass setting 16 cases ≡ true
unfolding run events occurrences opening closing joined_costs
cases_pass = refl

pub played : Played
played = record { table = table; holds = all_right setting 16 table bounds_settled cases cases_pass }
