-- What a text says, and where it is refused. Assumes nothing.
use Rattle.std.specs.Prelude.{◌≡◌, ℕ, ◌<◌, ◌≤◌, ◌⊎◌, List, [], length, Some, None, Ok, Err, Result}
use Rattle.records.specs.declared.fault.Fault.{Fault}
use Rattle.records.specs.declared.fault.Layer.TheVariants.{Line as InLine, Table}
use Rattle.records.specs.declared.record.Line.{Line}
use Rattle.records.specs.declared.record.Line.TheVariants.{Node}
use Rattle.records.specs.declared.record.NodeRecord.{NodeRecord}
use Rattle.records.specs.declared.fault.Refusal.{Refusal}
use Rattle.records.specs.Faults.{refusal, told}
use Rattle.records.specs.Rules.{AllCalled, FirstUncalled, Records, added}
use Rattle.texts.specs.Contents.{Contents, Overwritten, Room, broken, front, sizes}
use Rattle.texts.specs.Lines.{LineAt, NoLine}
use Rattle.texts.specs.declared.lists.Counts.{Counts}

abbrev pub no_records : Records
no_records = record { policies = []; bads = []; edges = []; quota = None; marks = []; nodes = []; defs = []; tariffs = [] }

abbrev pub no_counts : Counts
no_counts = record { policies = 0; bads = 0; edges = 0; quota = None; marks = 0; nodes = 0; defs = 0; tariffs = 0 }

-- the text up to a place is the lines of these records, one after another, and each line keeps the rules after those before it
pub data Passed (room : Room) (text : List ℕ) : ℕ → Records → Type 0 where
  begin : Passed room text 0 no_records
  next : {at end : ℕ} {rs : Records} {line : Line} → Passed room text at rs → LineAt text at line end → broken room rs line ≡ None → Passed room text end (added rs line)

-- the line at a place is one of a record, and this is the first rule that it breaks
pub record Offence (room : Room) (text : List ℕ) (at : ℕ) (rs : Records) (x : Refusal) : Type 0 where
  pub line : Line
  pub end : ℕ
  pub found : LineAt text at line end
  pub number : ℕ
  pub rule : broken room rs line ≡ Some number
  pub is : x ≡ refusal number Table at

-- the line at a place is that of no record, or it breaks this rule and none that is tested before
abbrev pub Breaks : Room → List ℕ → ℕ → Records → Refusal → Type 0
Breaks room text at rs x = ((x ≡ refusal 1 InLine at) × NoLine text at) ⊎ Offence room text at rs x

-- the records of the lines up to a place stand at the front of the lists, and the rest is as it was
pub record ReadTo (text : List ℕ) (before after : Contents) (at : ℕ) (counts : Counts) : Type 0 where
  pub passed : Passed (sizes before) text at (front counts after)
  pub policies : Overwritten before.policies after.policies counts.policies
  pub bads : Overwritten before.bads after.bads counts.bads
  pub edges : Overwritten before.edges after.edges counts.edges
  pub marks : Overwritten before.marks after.marks counts.marks
  pub nodes : Overwritten before.nodes after.nodes counts.nodes
  pub defs : Overwritten before.defs after.defs counts.defs
  pub tariffs : Overwritten before.tariffs after.tariffs counts.tariffs

-- the lines are read up to one that breaks a rule
pub record Refused (text : List ℕ) (before after : Contents) (x : Refusal) : Type 0 where
  pub place : ℕ
  pub counts : Counts
  pub read : ReadTo text before after place counts
  pub more : place < length text
  pub breaks : Breaks (sizes before) text place (front counts after) x

-- the lines up to a place are good, and the line of node n stands there
pub record NodeAt (room : Room) (text : List ℕ) (n place : ℕ) : Type 0 where
  pub before : Records
  pub passed : Passed room text place before
  pub node : NodeRecord
  pub number : node.node ≡ n
  pub end : ℕ
  pub found : LineAt text place (Node node) end

-- each call among these records has its definition
abbrev pub AllThere : Records → Type 0
AllThere rs = AllCalled rs.nodes (length rs.defs) (length rs.nodes)

-- some node calls a definition that is not there; the lowest has its line at the place told, if the text is read to its end
pub record UndefinedCall (text : List ℕ) (rs : Records) (x : Refusal) : Type 0 where
  pub node : ℕ
  pub first : FirstUncalled rs.nodes (length rs.defs) node
  pub place : ℕ
  pub is : x ≡ refusal 4 Table place
  pub stands : (room : Room) (all : Records) → Passed room text (length text) all → node < length all.nodes → NodeAt room text node place

-- what a reading answers, and what the lists then hold
pub data Outcome (text : List ℕ) (before after : Contents) : Result Counts Fault → Type 0 where
  too_long : {fault : Fault} → 65536 < length text → after ≡ before → told fault ≡ refusal 3 Table 65536 → Outcome text before after (Err fault)
  broken_line : {fault : Fault} → length text ≤ 65536 → Refused text before after (told fault) → Outcome text before after (Err fault)
  undefined_call : {fault : Fault} {counts : Counts} {node place : ℕ} → length text ≤ 65536 → ReadTo text before after (length text) counts → FirstUncalled (front counts after).nodes counts.defs node → NodeAt (sizes before) text node place → told fault ≡ refusal 4 Table place → Outcome text before after (Err fault)
  accepted : {counts : Counts} → length text ≤ 65536 → ReadTo text before after (length text) counts → AllCalled (front counts after).nodes counts.defs counts.nodes → Outcome text before after (Ok counts)

-- the rules allow no other answer, and nothing else in the lists
abbrev pub OnlyOutcome : List ℕ → Contents → Contents → Result Counts Fault → Type 0
OnlyOutcome text before after r = (other : Contents) (answer : Result Counts Fault) → Outcome text before other answer → (answer ≡ r) × (other ≡ after)
