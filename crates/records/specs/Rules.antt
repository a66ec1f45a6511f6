-- The rules that a line keeps after the records before it. Assumes nothing.
use Rattle.std.specs.Prelude.{◌≡◌, ℕ, ◌-◌, ◌<◌, Bool, true, false, if◌then◌else◌, not, ◌&&◌, ◌||◌, List, [], ◌∷◌, ◌++◌, length, is_some, Some, None, Option, ◌==◌, nat_le, nat_lt, slice_index_or}
use Rattle.records.specs.declared.record.Kind.{Kind}
use Rattle.records.specs.declared.record.Kind.TheVariants.{Empty, Event, Seq, Choice, Frame, Call}
use Rattle.records.specs.declared.record.Line.{Line}
use Rattle.records.specs.declared.record.Line.TheVariants.{Policy, Bad, Edge, Quota, Mark, Node, Def, Tariff}
use Rattle.records.specs.declared.record.PolicyRecord.{PolicyRecord}
use Rattle.records.specs.declared.record.BadRecord.{BadRecord}
use Rattle.records.specs.declared.record.EdgeRecord.{EdgeRecord}
use Rattle.records.specs.declared.record.MarkRecord.{MarkRecord}
use Rattle.records.specs.declared.record.NodeRecord.{NodeRecord}
use Rattle.records.specs.declared.record.DefRecord.{DefRecord}
use Rattle.records.specs.declared.record.TariffRecord.{TariffRecord}
use Rattle.records.specs.declared.record.Sofar.{Sofar}

-- the records of some lines, each kind in the order of its lines
pub record Records : Type 0 where
  pub policies : List PolicyRecord
  pub bads : List BadRecord
  pub edges : List EdgeRecord
  pub quota : Option ℕ
  pub marks : List MarkRecord
  pub nodes : List NodeRecord
  pub defs : List DefRecord
  pub tariffs : List TariffRecord

abbrev pub held : Sofar → Records
held s = record { policies = s.policies.now; bads = s.bads.now; edges = s.edges.now; quota = s.quota; marks = s.marks.now; nodes = s.nodes.now; defs = s.defs.now; tariffs = s.tariffs.now }

-- the record of one line more, behind those of its kind
abbrev pub added : Records → Line → Records
added rs (Policy r) = record rs { policies = rs.policies ++ r ∷ [] }
added rs (Bad r) = record rs { bads = rs.bads ++ r ∷ [] }
added rs (Edge r) = record rs { edges = rs.edges ++ r ∷ [] }
added rs (Quota k) = record rs { quota = Some k }
added rs (Mark r) = record rs { marks = rs.marks ++ r ∷ [] }
added rs (Node r) = record rs { nodes = rs.nodes ++ r ∷ [] }
added rs (Def r) = record rs { defs = rs.defs ++ r ∷ [] }
added rs (Tariff r) = record rs { tariffs = rs.tariffs ++ r ∷ [] }

-- no line of this kind came yet, nor one of a kind behind it
abbrev pub no_tariffs : Records → Bool
no_tariffs rs = length rs.tariffs == 0

abbrev pub no_defs : Records → Bool
no_defs rs = length rs.defs == 0 && no_tariffs rs

abbrev pub no_nodes : Records → Bool
no_nodes rs = length rs.nodes == 0 && no_defs rs

abbrev pub no_marks : Records → Bool
no_marks rs = length rs.marks == 0 && no_nodes rs

abbrev pub no_quota : Records → Bool
no_quota rs = not (is_some rs.quota) && no_marks rs

abbrev pub no_edges : Records → Bool
no_edges rs = length rs.edges == 0 && no_quota rs

abbrev pub no_bads : Records → Bool
no_bads rs = length rs.bads == 0 && no_edges rs

-- the first comes before the second, compared field by field
abbrev pub earlier_bad : BadRecord → BadRecord → Bool
earlier_bad x y = nat_lt x.policy y.policy || (x.policy == y.policy && nat_lt x.state y.state)

abbrev pub earlier_edge : EdgeRecord → EdgeRecord → Bool
earlier_edge x y =
    nat_lt x.policy y.policy || (x.policy == y.policy && (nat_lt x.from y.from || (x.from == y.from && nat_lt x.event y.event)))

abbrev pub earlier_mark : MarkRecord → MarkRecord → Bool
earlier_mark x y = nat_lt x.event y.event

abbrev pub earlier_tariff : TariffRecord → TariffRecord → Bool
earlier_tariff x y = nat_lt x.event y.event

-- the record comes after the last of these, if there is one
abbrev pub rises : {X : Type 0} → (X → X → Bool) → X → List X → X → Bool
rises earlier none xs r = length xs == 0 || earlier (slice_index_or xs (length xs - 1) none) r

abbrev pub rises_bad : List BadRecord → BadRecord → Bool
rises_bad = rises earlier_bad (record { policy = 0; state = 0 })

abbrev pub rises_edge : List EdgeRecord → EdgeRecord → Bool
rises_edge = rises earlier_edge (record { policy = 0; from = 0; event = 0; to = 0 })

abbrev pub rises_mark : List MarkRecord → MarkRecord → Bool
rises_mark = rises earlier_mark (record { event = 0 })

abbrev pub rises_tariff : List TariffRecord → TariffRecord → Bool
rises_tariff = rises earlier_tariff (record { event = 0; cost = 0 })

-- rule 2: kinds come in their order; policies, nodes and definitions count up from 0; bads, edges, marks and tariffs rise; one quota at most
abbrev pub in_order : Records → Line → Bool
in_order rs (Policy r) = no_bads rs && r.policy == length rs.policies
in_order rs (Bad r) = no_edges rs && rises_bad rs.bads r
in_order rs (Edge r) = no_quota rs && rises_edge rs.edges r
in_order rs (Quota k) = no_quota rs
in_order rs (Mark r) = no_nodes rs && rises_mark rs.marks r
in_order rs (Node r) = no_defs rs && r.node == length rs.nodes
in_order rs (Def r) = no_tariffs rs && r.def == length rs.defs
in_order rs (Tariff r) = rises_tariff rs.tariffs r

-- the fields of a node, each as far as what it names
abbrev pub parts_in_limits : Kind → ℕ → ℕ → Bool
parts_in_limits Empty a b = true
parts_in_limits Event a b = nat_lt a 256
parts_in_limits Seq a b = nat_lt a 128 && nat_lt b 128
parts_in_limits Choice a b = nat_lt a 128 && nat_lt b 128
parts_in_limits Frame a b = nat_lt a 8 && nat_lt b 128
parts_in_limits Call a b = nat_lt a 32

-- rule 3: no number passes its limit, and there are at most 512 edges
abbrev pub in_limits : Records → Line → Bool
in_limits rs (Policy r) = nat_lt r.policy 8 && (nat_lt 0 r.states && (nat_le r.states 8 && nat_lt r.start 8))
in_limits rs (Bad r) = nat_lt r.policy 8 && nat_lt r.state 8
in_limits rs (Edge r) = nat_lt (length rs.edges) 512 && (nat_lt r.policy 8 && (nat_lt r.from 8 && (nat_lt r.event 256 && nat_lt r.to 8)))
in_limits rs (Quota k) = nat_lt k 7
in_limits rs (Mark r) = nat_lt r.event 256
in_limits rs (Node r) = nat_lt r.node 128 && parts_in_limits r.kind r.a r.b
in_limits rs (Def r) = nat_lt r.def 32 && nat_lt r.node 128
in_limits rs (Tariff r) = nat_lt r.event 256 && (nat_lt 0 r.cost && nat_le r.cost 4294967295)

-- the policy is there, and it has this state
abbrev pub state_there : List PolicyRecord → ℕ → ℕ → Bool
state_there policies p q = nat_lt p (length policies) && nat_lt q (slice_index_or policies p (record { policy = 0; states = 0; start = 0 })).states

-- the parts of a node come before it
abbrev pub parts_there : Kind → ℕ → ℕ → ℕ → Bool
parts_there Empty n a b = true
parts_there Event n a b = true
parts_there Seq n a b = nat_lt a n && nat_lt b n
parts_there Choice n a b = nat_lt a n && nat_lt b n
parts_there Frame n a b = nat_lt b n
parts_there Call n a b = true

-- rule 4: what the line names is there; a called definition may follow, so it is tested behind the last line
abbrev pub is_there : Records → Line → Bool
is_there rs (Policy r) = nat_lt r.start r.states
is_there rs (Bad r) = state_there rs.policies r.policy r.state
is_there rs (Edge r) = state_there rs.policies r.policy r.from && state_there rs.policies r.policy r.to
is_there rs (Quota k) = true
is_there rs (Mark r) = is_some rs.quota
is_there rs (Node r) = parts_there r.kind r.node r.a r.b
is_there rs (Def r) = nat_lt r.node (length rs.nodes)
is_there rs (Tariff r) = true

-- the first of the rules 2, 3 and 4 that a line breaks
unfoldable pub breach : Records → Line → Option ℕ
breach rs line = if in_order rs line then (if in_limits rs line then (if is_there rs line then None else Some 4) else Some 3) else Some 2

-- a node that calls a definition calls one that is there
abbrev pub call_there : ℕ → NodeRecord → Bool
call_there defs node =
    elim node.kind [ Empty ↦ true | Event ↦ true | Seq ↦ true | Choice ↦ true | Frame ↦ true | Call ↦ nat_lt node.a defs ]

abbrev pub node_at : List NodeRecord → ℕ → NodeRecord
node_at nodes k = slice_index_or nodes k (record { node = 0; kind = Empty; a = 0; b = 0 })

-- each of the first n nodes calls what is there, if it calls
abbrev pub AllCalled : List NodeRecord → ℕ → ℕ → Type 0
AllCalled nodes defs n = (k : ℕ) → k < n → call_there defs (node_at nodes k) ≡ true

-- node n is the lowest that calls a definition which is not there
pub record FirstUncalled (nodes : List NodeRecord) (defs n : ℕ) : Type 0 where
  pub within : n < length nodes
  pub below : AllCalled nodes defs n
  pub here : call_there defs (node_at nodes n) ≡ false
