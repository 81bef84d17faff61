use Rattle.std.proofs.Common.{subst}
use Rattle.geometry_model.specs.Points.{Point, point_at}
use Rattle.geometry_model.specs.Geometries.{edges}
use Rattle.edge_boxes.specs.EdgeCrossings.{AreCrossings}
use Rattle.de9im.proofs.OffEdges.{off_part}
use Rattle.de9im.proofs.apart.part_off.Goals as goal

pub returns : goal.returns
returns c = record {
  off = c.requires;
  part = off_part c.args.second.now (point_at c.args.at) c.crossings-found.result c.kind.result c.off_edges.result c.requires
      (subst (λ (p : Point). AreCrossings c.crossings-found.result (edges c.args.second.now) p) c.of_grid.ensures
      c.crossings-found.ensures) c.kind.ensures c.off_edges.ensures;
}
