use Rattle.edge_boxes.proofs.Runs.{polygons_by_their_edges}
use Rattle.edge_boxes.proofs.ring_laws.polygons_by_their_edges.Goals as goal

pub returns : goal.returns
returns c = polygons_by_their_edges
