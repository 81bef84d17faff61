use Rattle.edge_boxes.proofs.Runs.{rings_by_their_edges}
use Rattle.edge_boxes.proofs.ring_laws.rings_by_their_edges.Goals as goal

pub returns : goal.returns
returns c = rings_by_their_edges
