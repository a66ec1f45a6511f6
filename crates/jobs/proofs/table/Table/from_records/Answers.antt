use Rattle.jobs.proofs.Fits.{bodies_fit, nodes_fit}
use Rattle.jobs.proofs.table.Table.from_records.Goals as goal

pub made_nodes-requires : goal.made_nodes-requires
made_nodes-requires c = nodes_fit c.in_ok-check_records.ensures

pub made_bodies-requires : goal.made_bodies-requires
made_bodies-requires c = bodies_fit c.in_ok-check_records.ensures
