-- What a reading has stored. Assumes nothing.
use Rattle.std.specs.Prelude.{◌≡◌, false, true}
use Rattle.records.specs.declared.record.Line.{Line}
use Rattle.records.specs.Rules.{Records, added}
use Rattle.texts.specs.Contents.{Grown, Room, SameLists, contents, front, has_room, sizes}
use Rattle.texts.specs.declared.store.Store.{Store}

abbrev pub room_of : Store → Room
room_of s = sizes (contents s.lists.now)

abbrev pub records_of : Store → Records
records_of s = front s.counts (contents s.lists.now)

-- the same lists
pub record Same (old new : Store) : Type 0 where
  pub lists : new.lists.ghost_name ≡ old.lists.ghost_name
  pub each : SameLists new.lists.now old.lists.now

-- the record of the line stands behind the others of its kind
pub record Put (line : Line) (old new : Store) : Type 0 where
  pub room : has_room (room_of old) (records_of old) line ≡ true
  pub same : Same old new
  pub records : records_of new ≡ added (records_of old) line
  pub policies : Grown old.lists.now.policies.now new.lists.now.policies.now old.counts.policies new.counts.policies
  pub bads : Grown old.lists.now.bads.now new.lists.now.bads.now old.counts.bads new.counts.bads
  pub edges : Grown old.lists.now.edges.now new.lists.now.edges.now old.counts.edges new.counts.edges
  pub marks : Grown old.lists.now.marks.now new.lists.now.marks.now old.counts.marks new.counts.marks
  pub nodes : Grown old.lists.now.nodes.now new.lists.now.nodes.now old.counts.nodes new.counts.nodes
  pub defs : Grown old.lists.now.defs.now new.lists.now.defs.now old.counts.defs new.counts.defs
  pub tariffs : Grown old.lists.now.tariffs.now new.lists.now.tariffs.now old.counts.tariffs new.counts.tariffs

pub record Unchanged (old new : Store) : Type 0 where
  pub same : Same old new
  pub contents : contents new.lists.now ≡ contents old.lists.now
  pub counts : new.counts ≡ old.counts

-- the list of the line's kind has no free place
pub record NoPlace (line : Line) (old new : Store) : Type 0 where
  pub room : has_room (room_of old) (records_of old) line ≡ false
  pub unchanged : Unchanged old new
