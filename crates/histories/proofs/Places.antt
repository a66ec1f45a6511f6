-- What a table says of the nodes that a derivation names. Assumes nothing.
use Rattle.std.proofs.Common.{◌≡◌, ℕ, ◌<◌, true, ltb, List, length, get_or, Some, arith, ltb-true}
use Rattle.std.specs.List.{slice_get}
use Rattle.std.proofs.lemmas.Option.{slice_get-get_or, slice_get_within, get_or_from_slice_get}
use Rattle.std.proofs.lemmas.Bool.Decides.{nat_tests}
use Rattle.jobs.specs.declared.node.Node.{Node}
use Rattle.jobs.specs.declared.node.Node.TheVariants.{Empty, Event, Seq, Choice, Frame, Call}
use Rattle.jobs.specs.Placed.{Sound, placed}

module _ {nodes : List Node} {bodies : List ℕ} (sound : Sound nodes bodies) where
  node_placed : (n : ℕ) (x : Node) → slice_get nodes n ≡ Some x → placed x n (length bodies) ≡ true
  node_placed n x e =
      let within : n < length nodes = slice_get_within nodes n x e in
      rw (get_or_from_slice_get nodes n x Empty e) at (sound.placed n within)

  pub event_low : (n e : ℕ) → slice_get nodes n ≡ Some (Event e) → e < 256
  event_low n e h = ltb-true e 256 (node_placed n (Event e) h)

  pub policy_low : (n p m : ℕ) → slice_get nodes n ≡ Some (Frame p m) → p < 8
  policy_low n p m h = grind (arith, nat_tests, node_placed n (Frame p m) h)

  -- a number below that of a node is a node's
  below_node : (k n : ℕ) (x : Node) → slice_get nodes n ≡ Some x → ltb k n ≡ true → slice_get nodes k ≡ Some (get_or nodes k Empty)
  below_node k n x e less =
      let here : n < length nodes = slice_get_within nodes n x e in
      let low : k < n = ltb-true k n less in
      slice_get-get_or nodes k Empty (omega arith)

  -- the parts of a node are nodes, with lower numbers
  pub sequence_parts : (n l r : ℕ) → slice_get nodes n ≡ Some (Seq l r) → (l < n) × (r < n)
  sequence_parts n l r h = grind (arith, nat_tests, node_placed n (Seq l r) h)

  pub choice_parts : (n l r : ℕ) → slice_get nodes n ≡ Some (Choice l r) → (l < n) × (r < n)
  choice_parts n l r h = grind (arith, nat_tests, node_placed n (Choice l r) h)

  pub framed_part : (n p m : ℕ) → slice_get nodes n ≡ Some (Frame p m) → m < n
  framed_part n p m h = grind (arith, nat_tests, node_placed n (Frame p m) h)

  -- a called definition is there, and its body is a node
  pub called_body : (n d : ℕ) → slice_get nodes n ≡ Some (Call d) → slice_get bodies d ≡ Some (get_or bodies d 0)
  called_body n d h = slice_get-get_or bodies d 0 (ltb-true d (length bodies) (node_placed n (Call d) h))

  pub body_within : (d b : ℕ) → slice_get bodies d ≡ Some b → b < length nodes
  body_within d b h =
      let within : d < length bodies = slice_get_within bodies d b h in
      rw (get_or_from_slice_get bodies d b 0 h) at (sound.exist d within)
