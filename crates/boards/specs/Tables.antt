-- What policies, bads and edges mean. Assumes nothing.
use Rattle.std.specs.Prelude.{ℕ, Bool, false, if◌then◌else◌, ◌&&◌, ◌||◌, List, [], ◌∷◌, length, Some, None, Option, ◌==◌, slice_index_or}
use Rattle.std.specs.Option.{unwrap_or}
use Rattle.records.specs.declared.record.PolicyRecord.{PolicyRecord}
use Rattle.records.specs.declared.record.BadRecord.{BadRecord}
use Rattle.records.specs.declared.record.EdgeRecord.{EdgeRecord}
use Rattle.histories.specs.Automata.{Automaton}
use Rattle.boards.specs.Meanings.{Meaning}

abbrev pub policy_at : List PolicyRecord → ℕ → PolicyRecord
policy_at policies p = slice_index_or policies p (record { policy = 0; states = 0; start = 0 })

-- a bad record makes state q of policy p offend
abbrev pub bad_in : List BadRecord → ℕ → ℕ → Bool
bad_in [] p q = false
bad_in (r ∷ rs) p q = (r.policy == p && r.state == q) || bad_in rs p q

-- the record is the edge of policy p from state q at event e
abbrev pub is_edge : EdgeRecord → ℕ → ℕ → ℕ → Bool
is_edge r p q e = r.policy == p && (r.from == q && r.event == e)

-- where the edge of policy p from state q at event e leads, if there is one; edges that keep the rules have at most one, of more the last would count
abbrev pub edge_to : List EdgeRecord → ℕ → ℕ → ℕ → Option ℕ
edge_to [] p q e = None
edge_to (r ∷ rs) p q e = elim (edge_to rs p q e) [ Some to ↦ Some to | None ↦ if is_edge r p q e then Some r.to else None ]

-- the automaton of policy p; a missing edge leaves the state
abbrev pub policy_of : List PolicyRecord → List BadRecord → List EdgeRecord → ℕ → Automaton
policy_of policies bads edges p = record {
  states = (policy_at policies p).states;
  start = (policy_at policies p).start;
  offends = λ q. bad_in bads p q;
  next = λ q e. unwrap_or (edge_to edges p q e) q;
}

-- a policy for each policy record
abbrev pub tabled : List PolicyRecord → List BadRecord → List EdgeRecord → Meaning
tabled policies bads edges = record { count = length policies; automaton = policy_of policies bads edges }
