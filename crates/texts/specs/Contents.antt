-- What the lists of a reading hold. Assumes nothing.
use Rattle.std.specs.Prelude.{◌≡◌, ℕ, ◌<◌, ◌≤◌, Bool, true, if◌then◌else◌, List, [], ◌∷◌, ◌++◌, length, take, drop, Some, None, Option, nat_lt}
use Rattle.records.specs.declared.record.PolicyRecord.{PolicyRecord}
use Rattle.records.specs.declared.record.BadRecord.{BadRecord}
use Rattle.records.specs.declared.record.EdgeRecord.{EdgeRecord}
use Rattle.records.specs.declared.record.MarkRecord.{MarkRecord}
use Rattle.records.specs.declared.record.NodeRecord.{NodeRecord}
use Rattle.records.specs.declared.record.DefRecord.{DefRecord}
use Rattle.records.specs.declared.record.TariffRecord.{TariffRecord}
use Rattle.records.specs.declared.record.Line.{Line}
use Rattle.records.specs.declared.record.Line.TheVariants.{Policy, Bad, Edge, Quota, Mark, Node, Def, Tariff}
use Rattle.records.specs.Rules.{Records, breach}
use Rattle.texts.specs.declared.lists.Lists.{Lists}
use Rattle.texts.specs.declared.lists.Counts.{Counts}

-- the whole of each list
pub record Contents : Type 0 where
  pub policies : List PolicyRecord
  pub bads : List BadRecord
  pub edges : List EdgeRecord
  pub marks : List MarkRecord
  pub nodes : List NodeRecord
  pub defs : List DefRecord
  pub tariffs : List TariffRecord

abbrev pub contents : Lists → Contents
contents ls = record { policies = ls.policies.now; bads = ls.bads.now; edges = ls.edges.now; marks = ls.marks.now; nodes = ls.nodes.now; defs = ls.defs.now; tariffs = ls.tariffs.now }

-- the lists are the same slices of memory, whatever they hold
pub record SameLists (ls ms : Lists) : Type 0 where
  pub policies : ls.policies.ghost_name ≡ ms.policies.ghost_name
  pub bads : ls.bads.ghost_name ≡ ms.bads.ghost_name
  pub edges : ls.edges.ghost_name ≡ ms.edges.ghost_name
  pub marks : ls.marks.ghost_name ≡ ms.marks.ghost_name
  pub nodes : ls.nodes.ghost_name ≡ ms.nodes.ghost_name
  pub defs : ls.defs.ghost_name ≡ ms.defs.ghost_name
  pub tariffs : ls.tariffs.ghost_name ≡ ms.tariffs.ghost_name

-- the records at the front of the lists
abbrev pub front : Counts → Contents → Records
front counts ls = record { policies = take counts.policies ls.policies; bads = take counts.bads ls.bads; edges = take counts.edges ls.edges; quota = counts.quota; marks = take counts.marks ls.marks; nodes = take counts.nodes ls.nodes; defs = take counts.defs ls.defs; tariffs = take counts.tariffs ls.tariffs }

-- each list has at least as many places
pub record Within (counts : Counts) (ls : Contents) : Type 0 where
  pub policies : counts.policies ≤ length ls.policies
  pub bads : counts.bads ≤ length ls.bads
  pub edges : counts.edges ≤ length ls.edges
  pub marks : counts.marks ≤ length ls.marks
  pub nodes : counts.nodes ≤ length ls.nodes
  pub defs : counts.defs ≤ length ls.defs
  pub tariffs : counts.tariffs ≤ length ls.tariffs

-- how many records each list can hold
pub record Room : Type 0 where
  pub policies : ℕ
  pub bads : ℕ
  pub edges : ℕ
  pub marks : ℕ
  pub nodes : ℕ
  pub defs : ℕ
  pub tariffs : ℕ

abbrev pub sizes : Contents → Room
sizes ls = record { policies = length ls.policies; bads = length ls.bads; edges = length ls.edges; marks = length ls.marks; nodes = length ls.nodes; defs = length ls.defs; tariffs = length ls.tariffs }

-- rule 7: the list of the line's kind has a free place; a quota needs none
abbrev pub has_room : Room → Records → Line → Bool
has_room room rs (Policy r) = nat_lt (length rs.policies) room.policies
has_room room rs (Bad r) = nat_lt (length rs.bads) room.bads
has_room room rs (Edge r) = nat_lt (length rs.edges) room.edges
has_room room rs (Quota k) = true
has_room room rs (Mark r) = nat_lt (length rs.marks) room.marks
has_room room rs (Node r) = nat_lt (length rs.nodes) room.nodes
has_room room rs (Def r) = nat_lt (length rs.defs) room.defs
has_room room rs (Tariff r) = nat_lt (length rs.tariffs) room.tariffs

-- the first of the rules 2, 3, 4 and 7 that a line breaks
unfoldable pub broken : Room → Records → Line → Option ℕ
broken room rs line = elim (breach rs line) [ None ↦ if has_room room rs line then None else Some 7 | Some n ↦ Some n ]

-- the first n of a list are written over, and the rest is as it was
pub record Overwritten {X : Type 0} (before after : List X) (n : ℕ) : Type 0 where
  pub within : n ≤ length after
  pub long : length after ≡ length before
  pub rest : drop n after ≡ drop n before

-- what is used of a list is no less than before, and the rest is as it was
pub record Grown {X : Type 0} (old new : List X) (n m : ℕ) : Type 0 where
  pub more : n ≤ m
  pub over : Overwritten old new m

-- there was a free place behind the first n, and the record stands there
pub record Pushed {X : Type 0} (x : X) (old new : List X) (n m : ℕ) : Type 0 where
  pub room : n < length old
  pub front : take m new ≡ take n old ++ x ∷ []
  pub grown : Grown old new n m

-- there is no free place behind the first n, and nothing is changed
pub record Full {X : Type 0} (old new : List X) (n m : ℕ) : Type 0 where
  pub room : length old ≤ n
  pub list : new ≡ old
  pub used : m ≡ n
