-- What the nodes and bodies of a table keep. Assumes nothing.
use Rattle.std.specs.Prelude.{◌≡◌, ℕ, ◌<◌, ◌≤◌, Bool, true, ◌&&◌, List, length, nat_lt, slice_index, slice_index_or}
use Rattle.jobs.specs.declared.node.Node.{Node}
use Rattle.jobs.specs.declared.node.Node.TheVariants.{Empty, Event, Seq, Choice, Frame, Call}

-- node n: its parts have lower numbers, and the definition that it calls is there
abbrev pub placed : Node → ℕ → ℕ → Bool
placed Empty n defs = true
placed (Event e) n defs = nat_lt e 256
placed (Seq l r) n defs = nat_lt l n && nat_lt r n
placed (Choice l r) n defs = nat_lt l n && nat_lt r n
placed (Frame p m) n defs = nat_lt p 8 && nat_lt m n
placed (Call d) n defs = nat_lt d defs

-- each node is placed
abbrev pub PlacedNodes : List Node → ℕ → Type 0
PlacedNodes nodes defs = (n : ℕ) → n < length nodes → placed (slice_index_or nodes n Empty) n defs ≡ true

-- each body is a node
abbrev pub PlacedBodies : List ℕ → ℕ → Type 0
PlacedBodies bodies count = (d : ℕ) → d < length bodies → slice_index bodies d < count

-- nodes and bodies as a table has them
pub record Sound (nodes : List Node) (bodies : List ℕ) : Type 0 where
  pub few : length nodes ≤ 128
  pub defined : length bodies ≤ 32
  pub placed : PlacedNodes nodes (length bodies)
  pub exist : PlacedBodies bodies (length nodes)
