use Rattle.edge_boxes.proofs.Runs.{inside_by_edges}
use Rattle.edge_boxes.proofs.ring_laws.inside_by_edges.Goals as goal

pub returns : goal.returns
returns c = inside_by_edges
