-- Records that keep the rules say sound nodes and bodies. Assumes nothing.
use Rattle.std.proofs.Common.{◌≡◌, ℕ, ◌<◌, List, [], map, length, take, arith}
use Rattle.std.proofs.lemmas.List.{get_or_default, get_or-map, length-map, length-take-le}
use Rattle.std.proofs.lemmas.Bool.Decides.{nat_tests}
use Rattle.records.specs.declared.record.Line.TheVariants as line
use Rattle.records.specs.declared.record.NodeRecord.{NodeRecord}
use Rattle.records.specs.declared.record.DefRecord.{DefRecord}
use Rattle.records.specs.Rules.{node_at}
use Rattle.records.proofs.Kept.{Kept as LineKept, kept}
use Rattle.jobs.specs.declared.node.Node.{Node}
use Rattle.jobs.specs.Placed.{Sound}
use Rattle.jobs.specs.Making.{BodiesFit, Kept, NodesFit, alone, body_of, def_at, node_of}

module _ {nodes : List NodeRecord} {defs : List DefRecord} (all : Kept nodes defs) where
  node_line : (k : ℕ) → k < length nodes → LineKept (alone (take k nodes) []) (line.Node (node_at nodes k))
  node_line k h = kept _ _ (all.every_node k h)

  def_line : (d : ℕ) → d < length defs → LineKept (alone nodes (take d defs)) (line.Def (def_at defs d))
  def_line d h = kept _ _ (all.every_def d h)

  node_low : (k : ℕ) → k < length nodes → k < 128
  node_low k h = grind (arith, nat_tests, length-take-le, node_line k)

  def_low : (d : ℕ) → d < length defs → d < 32
  def_low d h = grind (arith, nat_tests, length-take-le, def_line d)

  pub nodes_fit : NodesFit nodes
  nodes_fit k r h = grind (arith, nat_tests, get_or_default, node_line k)

  pub bodies_fit : BodiesFit defs
  bodies_fit d r h = grind (arith, nat_tests, get_or_default, def_line d)

  sound : Sound (map node_of nodes) (map body_of defs)
  sound = record {
    few = grind (arith, length-map, node_low 128);
    defined = grind (arith, length-map, def_low 32);
    placed = λ n h. grind (arith, nat_tests, length-map, length-take-le, get_or-map, node_line n, all.every_call n);
    exist = λ d h. grind (arith, nat_tests, length-map, get_or-map, def_line d);
  }

  -- so are equal lists
  pub sound_as : {xs : List Node} {ys : List ℕ} → xs ≡ map node_of nodes → ys ≡ map body_of defs → Sound xs ys
  sound_as e f = rw (e, f) sound
