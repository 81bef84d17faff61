use Rattle.std.proofs.Common.{ap, ap₂, ◌∙◌, length}
use Rattle.std.proofs.lemmas.List.{take_all}
use Rattle.basics.proofs.Numbers.{at_least_same}
use Rattle.geometry_model.specs.Points.{Point, point_at}
use Rattle.geometry_model.specs.Geometries.{edges_of_line}
use Rattle.geometry_model.specs.Crossings.{exactly_one, strictly_above}
use Rattle.witnesses.proofs.InsideFacts.{odd_edges, next_edge, odd_of_one}
use Rattle.witnesses.proofs.insides.is_inside_ring.Goals as goal

pub loop-index-preserved : goal.loop-index-preserved
loop-index-preserved c = c.differ-is_odd.ensures
    ∙ (ap₂ exactly_one c.loop-index.invariant (c.crosses_up.ensures ∙ ap (λ (q : Point). strictly_above c.edge.result q) c.of_grid-point.ensures)
    ∙ next_edge (point_at c.args.at) (edges_of_line c.args.ring.now) c.loop-index.index c.edge.result c.edge.ensures)

pub returns : goal.returns
returns c = c.loop-index.invariant
    ∙ (ap (odd_edges (point_at c.args.at)) (take_all c.loop-index.index (edges_of_line c.args.ring.now) (at_least_same c.edge_count-index-end.result (length (edges_of_line c.args.ring.now)) c.loop-index.index c.edge_count-index-end.ensures c.loop-index-test.false))
    ∙ odd_of_one (point_at c.args.at) c.args.ring.now)
