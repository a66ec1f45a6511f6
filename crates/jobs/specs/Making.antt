-- What the making of a table from records answers. Assumes nothing.
use Rattle.std.specs.Prelude.{◌≡◌, ℕ, ◌<◌, true, List, [], map, length, take, None, Option, Result, slice_index_or, All}
use Rattle.records.specs.declared.fault.Fault.{Fault}
use Rattle.records.specs.declared.fault.Layer.TheVariants as layer
use Rattle.records.specs.declared.record.Kind.{Kind}
use Rattle.records.specs.declared.record.Kind.TheVariants as kind
use Rattle.records.specs.declared.record.Line.TheVariants as line
use Rattle.records.specs.declared.record.NodeRecord.{NodeRecord}
use Rattle.records.specs.declared.record.DefRecord.{DefRecord}
use Rattle.records.specs.Breaks.{FirstBreak, Keep}
use Rattle.records.specs.declared.fault.Refusal.{Refusal}
use Rattle.records.specs.Faults.{refusal}
use Rattle.records.specs.Makings as making
use Rattle.records.specs.Rules.{AllCalled, FirstUncalled, Records, breach, node_at, parts_in_limits}
use Rattle.jobs.specs.declared.node.Node.{Node}
use Rattle.jobs.specs.declared.node.Node.TheVariants.{Empty, Event, Seq, Choice, Frame, Call}
use Rattle.jobs.specs.declared.table.Table.{Table}
use Rattle.jobs.specs.Contents.{bodies_of, nodes_of}
use Rattle.jobs.specs.Placed.{Sound}

-- these nodes and definitions, and no other records
abbrev pub alone : List NodeRecord → List DefRecord → Records
alone nodes defs = record { policies = []; bads = []; edges = []; quota = None; marks = []; nodes = nodes; defs = defs; tariffs = [] }

abbrev pub def_at : List DefRecord → ℕ → DefRecord
def_at defs d = slice_index_or defs d (record { def = 0; node = 0 })

-- the first rule that node record k breaks after the node records before it
abbrev pub node_breach : List NodeRecord → ℕ → Option ℕ
node_breach nodes k = breach (alone (take k nodes) []) (line.Node (node_at nodes k))

-- the first rule that definition record d breaks after all the nodes and the definition records before it
abbrev pub def_breach : List NodeRecord → List DefRecord → ℕ → Option ℕ
def_breach nodes defs d = breach (alone nodes (take d defs)) (line.Def (def_at defs d))

-- each of the first n node records keeps the rules
abbrev pub NodesKeep : List NodeRecord → ℕ → Type 0
NodesKeep nodes = Keep (node_breach nodes)

-- each of the first n definition records keeps the rules
abbrev pub DefsKeep : List NodeRecord → List DefRecord → ℕ → Type 0
DefsKeep nodes defs = Keep (def_breach nodes defs)

-- the first node record that breaks a rule
abbrev pub BadNode : List NodeRecord → Refusal → Type 0
BadNode nodes = FirstBreak (node_breach nodes) (length nodes)

-- the first definition record that breaks a rule
abbrev pub BadDef : List NodeRecord → List DefRecord → Refusal → Type 0
BadDef nodes defs = FirstBreak (def_breach nodes defs) (length defs)

-- the lowest node that calls a definition which is not there
pub record BadCall (nodes : List NodeRecord) (defs : ℕ) (tells : Refusal) : Type 0 where
  pub place : ℕ
  pub lowest : FirstUncalled nodes defs place
  pub says : tells ≡ refusal 4 layer.Table place

-- every record keeps the rules, and every called definition is there
pub record Kept (nodes : List NodeRecord) (defs : List DefRecord) : Type 0 where
  pub every_node : NodesKeep nodes (length nodes)
  pub every_def : DefsKeep nodes defs (length defs)
  pub every_call : AllCalled nodes (length defs) (length nodes)

-- a rule is broken, and this is told of the first break: nodes come first, then definitions, then calls
pub data Broken (nodes : List NodeRecord) (defs : List DefRecord) (tells : Refusal) : Type 0 where
  node : BadNode nodes tells → Broken nodes defs tells
  def : NodesKeep nodes (length nodes) → BadDef nodes defs tells → Broken nodes defs tells
  call : NodesKeep nodes (length nodes) → DefsKeep nodes defs (length defs) → BadCall nodes (length defs) tells → Broken nodes defs tells

-- the node of a kind with these fields
abbrev pub node_with : Kind → ℕ → ℕ → Node
node_with kind.Empty a b = Empty
node_with kind.Event a b = Event a
node_with kind.Seq a b = Seq a b
node_with kind.Choice a b = Choice a b
node_with kind.Frame a b = Frame a b
node_with kind.Call a b = Call a

-- the node that a record says
abbrev pub node_of : NodeRecord → Node
node_of r = node_with r.kind r.a r.b

-- the body that a record says
abbrev pub body_of : DefRecord → ℕ
body_of r = r.node

-- the fields of each node record are in their limits
abbrev pub NodesFit : List NodeRecord → Type 0
NodesFit = All (λ r. parts_in_limits r.kind r.a r.b ≡ true)

-- each body is in its limit
abbrev pub BodiesFit : List DefRecord → Type 0
BodiesFit = All (λ r. body_of r < 128)

-- the table has the nodes and bodies that the records say, and they are sound
pub record Holds (nodes : List NodeRecord) (defs : List DefRecord) (table : Table) : Type 0 where
  pub same_nodes : nodes_of table ≡ map node_of nodes
  pub same_bodies : bodies_of table ≡ map body_of defs
  pub sound : Sound (nodes_of table) (bodies_of table)

-- what a making answers: a table where all rules are kept, else the refusal of the first break; or that memory is wanting, once all rules are kept
abbrev pub Makes : List NodeRecord → List DefRecord → Result Table Fault → Type 0
Makes nodes defs = making.Makes (Kept nodes defs) (Broken nodes defs) (Holds nodes defs)

-- a break has no other answer than its refusal, and records that keep all rules are refused for want of memory only
abbrev pub Only : List NodeRecord → List DefRecord → Result Table Fault → Type 0
Only nodes defs = making.Only (Kept nodes defs) (Broken nodes defs)
