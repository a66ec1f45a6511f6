-- The nodes and bodies of a table. Assumes nothing.
use Rattle.std.specs.Prelude.{ℕ, List, vec_items}
use Rattle.jobs.specs.declared.node.Node.{Node}
use Rattle.jobs.specs.declared.table.Table.{Table}

abbrev pub nodes_of : Table → List Node
nodes_of table = vec_items table.nodes

abbrev pub bodies_of : Table → List ℕ
bodies_of table = vec_items table.bodies
