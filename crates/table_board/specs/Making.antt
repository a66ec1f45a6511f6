-- What the making of a table board from records answers. Assumes nothing.
use Rattle.std.specs.Prelude.{◌≡◌, ℕ, ◌<◌, List, [], length, take, Some, None, vec_items, Option, Result, slice_index_or}
use Rattle.records.specs.declared.fault.Fault.{Fault}
use Rattle.records.specs.declared.record.Line.TheVariants as line
use Rattle.records.specs.declared.record.PolicyRecord.{PolicyRecord}
use Rattle.records.specs.declared.record.BadRecord.{BadRecord}
use Rattle.records.specs.declared.record.EdgeRecord.{EdgeRecord}
use Rattle.records.specs.Breaks.{FirstBreak, Keep}
use Rattle.records.specs.declared.fault.Refusal.{Refusal}
use Rattle.records.specs.Makings as making
use Rattle.records.specs.Rules.{Records, breach}
use Rattle.boards.specs.Meanings.{Meaning, Same}
use Rattle.boards.specs.Tables.{edge_to, policy_at, tabled}
use Rattle.table_board.specs.declared.table.TableBoard.{TableBoard}
use Rattle.table_board.specs.Policies.{laid_out}

-- what a table board means
abbrev pub meaning_of : TableBoard → Meaning
meaning_of board = laid_out (vec_items board.policies)

-- these policies, bads and edges, and no other records
abbrev pub only_board : List PolicyRecord → List BadRecord → List EdgeRecord → Records
only_board policies bads edges = record { policies = policies; bads = bads; edges = edges; quota = None; marks = []; nodes = []; defs = []; tariffs = [] }

abbrev pub bad_at : List BadRecord → ℕ → BadRecord
bad_at bads k = slice_index_or bads k (record { policy = 0; state = 0 })

abbrev pub edge_at : List EdgeRecord → ℕ → EdgeRecord
edge_at edges k = slice_index_or edges k (record { policy = 0; from = 0; event = 0; to = 0 })

-- the first rule that a record breaks: a policy after the policies before it, a bad after all policies and the bads before it, an edge after both and the edges before it
abbrev pub policy_breach : List PolicyRecord → ℕ → Option ℕ
policy_breach policies k = breach (only_board (take k policies) [] []) (line.Policy (policy_at policies k))

abbrev pub bad_breach : List PolicyRecord → List BadRecord → ℕ → Option ℕ
bad_breach policies bads k = breach (only_board policies (take k bads) []) (line.Bad (bad_at bads k))

abbrev pub edge_breach : List PolicyRecord → List BadRecord → List EdgeRecord → ℕ → Option ℕ
edge_breach policies bads edges k = breach (only_board policies bads (take k edges)) (line.Edge (edge_at edges k))

module _ (policies : List PolicyRecord) (bads : List BadRecord) (edges : List EdgeRecord) where
  -- every record keeps the rules
  pub record Kept : Type 0 where
    pub every_policy : Keep (policy_breach policies) (length policies)
    pub every_bad : Keep (bad_breach policies bads) (length bads)
    pub every_edge : Keep (edge_breach policies bads edges) (length edges)

  -- a rule is broken, and this is told of the first break: policies come first, then bads, then edges
  pub data Broken (tells : Refusal) : Type 0 where
    policy : FirstBreak (policy_breach policies) (length policies) tells → Broken tells
    bad : Keep (policy_breach policies) (length policies) → FirstBreak (bad_breach policies bads) (length bads) tells → Broken tells
    edge : Keep (policy_breach policies) (length policies) → Keep (bad_breach policies bads) (length bads) → FirstBreak (edge_breach policies bads edges) (length edges) tells → Broken tells

  -- what a making answers: a board that means what the records say where all rules are kept, else the refusal of the first break; or that memory is wanting, once all rules are kept
  abbrev pub Makes : Result TableBoard Fault → Type 0
  Makes = making.Makes Kept Broken (λ board. Same (meaning_of board) (tabled policies bads edges))

  -- a break has no other answer than its refusal, and records that keep all rules are refused for want of memory only
  abbrev pub Only : Result TableBoard Fault → Type 0
  Only = making.Only Kept Broken

-- records that keep the rules have one edge at most for a policy, a state and an event: each edge record leads where it says
abbrev pub EdgesAreObeyed : Type 0
EdgesAreObeyed =
    (policies : List PolicyRecord) (bads : List BadRecord) (edges : List EdgeRecord) → Kept policies bads edges → (k : ℕ) → k < length edges
    → edge_to edges (edge_at edges k).policy (edge_at edges k).from (edge_at edges k).event ≡ Some (edge_at edges k).to
