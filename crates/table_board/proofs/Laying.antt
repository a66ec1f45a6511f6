-- Rows make policies, and policies a board. Assumes nothing.
use Rattle.std.proofs.Common.{◌≡◌, ℕ, ◌+◌, ◌<◌, List, [], ◌∷◌, ◌++◌, length, get_or, arith, length-append}
use Rattle.std.proofs.lemmas.List.{get_or_append_left, get_or_past, get_or_push}
use Rattle.std.proofs.lemmas.Option.{slice_get-get_or}
use Rattle.histories.specs.Automata.{Automaton}
use Rattle.boards.specs.Meanings.{Closed, Same, SameAutomaton}
use Rattle.table_board.specs.declared.rows.Row.{Row}
use Rattle.table_board.specs.declared.rows.Policy.{Policy}
use Rattle.table_board.specs.Rows.{automaton}
use Rattle.table_board.specs.Policies.{automaton_of, laid_out}
use Rattle.table_board.specs.Building.{AreRowsOf}

module _ (a : Automaton) (start n : ℕ) (rows : List Row) (starts : start ≡ a.start) (states : n ≡ a.states) (all : AreRowsOf a n rows) where
  pub rows_same : SameAutomaton (automaton start rows) a
  rows_same = record {
    states = omega (arith, all.many);
    start = starts;
    offends = λ q there. grind (arith, all.each q);
    next = λ q e there low. grind (arith, all.each q);
  }

  -- past its last event a row leaves the state
  pub rows_closed : Closed a → Closed (automaton start rows)
  rows_closed closed = record {
    some = omega (arith, all.many, closed.some);
    few = omega (arith, all.many, closed.few);
    starts = omega (arith, all.many, closed.starts);
    stays = λ q e there. grind (arith, all.many, all.each q, closed.stays q e, closed.some, get_or_past);
  }

laid_at : (policies : List Policy) (d : Policy) (p : ℕ) → p < length policies → (laid_out policies).automaton p ≡ automaton_of (get_or policies p d)
laid_at policies d p there = grind (arith, slice_get-get_or policies p d)

-- one policy more
pub policies_more : (f : ℕ → Automaton) (n : ℕ) (policies : List Policy) (policy : Policy) → Same (laid_out policies) (record { count = n; automaton = f }) → SameAutomaton (automaton_of policy) (f n)
    → Same (laid_out (policies ++ policy ∷ [])) (record { count = n + 1; automaton = f })
policies_more f n policies policy before here = record {
  count = omega (arith, before.count, length-append policies (policy ∷ []));
  automaton = λ p low. grind (arith, before.count, before.automaton p, length-append, laid_at policies policy p, laid_at (policies ++ policy ∷ []) policy p, get_or_append_left policies (policy ∷ []) policy p, get_or_push policies policy policy p);
}
