-- What a table board's policies mean. Assumes nothing.
use Rattle.std.specs.Prelude.{ℕ, ◌<◌, ◌≤◌, List, [], ◌∷◌, length, vec_items, slice_get}
use Rattle.std.specs.Option.{option_map_or}
use Rattle.std.proofs.Common.{zero, suc, arith}
use Rattle.histories.specs.Automata.{Automaton}
use Rattle.boards.specs.Meanings.{Closed, Meaning, Sound}
use Rattle.table_board.specs.declared.rows.Policy.{Policy}
use Rattle.table_board.specs.Rows.{automaton}

abbrev pub automaton_of : Policy → Automaton
automaton_of policy = automaton policy.start (vec_items policy.rows)

-- each policy in its place; past the last, one with no states
abbrev pub laid_out : List Policy → Meaning
laid_out policies = record { count = length policies; automaton = λ p. option_map_or automaton_of (slice_get policies p) (automaton 0 []) }

each_closed : (policies : List Policy) (p : ℕ) → p < length policies → Closed ((laid_out policies).automaton p)
each_closed [] p there = absurd (omega arith)
each_closed (policy ∷ policies) zero there = policy.closed
each_closed (policy ∷ policies) (suc p) there = each_closed policies p (omega arith)

pub sound : (policies : List Policy) → length policies ≤ 8 → Sound (laid_out policies)
sound policies few = record { few = few; closed = each_closed policies }
