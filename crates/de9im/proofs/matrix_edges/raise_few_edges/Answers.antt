use Rattle.geometry_model.specs.Geometries.{edges}
use Rattle.matrix_laws.specs.Cells.{Covers}
use Rattle.de9im.proofs.Growth.{grows_through, all_taken}
use Rattle.de9im.proofs.EdgePoints.{ends_kept, edges_more, ready_kept}
use Rattle.de9im.proofs.matrix_edges.raise_few_edges.Goals as goal

pub is_full-requires-clause-ends : goal.is_full-requires-clause-ends
is_full-requires-clause-ends c = ends_kept c.args.first.now c.args.second.now c.args.matrix.now c.loop-edge.matrix
    c.loop-edge.invariant.grows.grown c.requires.ends

pub is_full-requires-clause-ready : goal.is_full-requires-clause-ready
is_full-requires-clause-ready c = ready_kept c.args.pass c.args.first.now c.args.second.now c.args.matrix.now
    c.loop-edge.matrix c.loop-edge.invariant.grows.grown c.requires.ready

pub raise_edge-requires-clause-ready : goal.raise_edge-requires-clause-ready
raise_edge-requires-clause-ready c = ready_kept c.args.pass c.args.first.now c.args.second.now c.args.matrix.now
    c.loop-edge.matrix c.loop-edge.invariant.grows.grown c.requires.ready

pub raise_edge-requires-clause-ends : goal.raise_edge-requires-clause-ends
raise_edge-requires-clause-ends c = ends_kept c.args.first.now c.args.second.now c.args.matrix.now c.loop-edge.matrix
    c.loop-edge.invariant.grows.grown c.requires.ends

pub loop-edge-preserved : goal.loop-edge-preserved
loop-edge-preserved c = record {
  grows = grows_through c.args.first.now c.args.second.now c.args.matrix.now c.loop-edge.matrix c.raise_edge.new.matrix
      c.loop-edge.invariant.grows c.in_ok-raise_edge.ensures.grows;
  covers = edges_more c.args.first.now c.args.second.now c.segments-edge-items.result.now c.loop-edge.edge-index
      c.edge-item.result c.loop-edge.matrix c.raise_edge.new.matrix c.loop-edge-test.true c.edge-item.is
      c.in_ok-raise_edge.ensures.grows.grown c.loop-edge.invariant.covers c.in_ok-raise_edge.ensures.covers;
  merged = c.in_ok-raise_edge.ensures.merged;
}

pub returns-clause-covers : goal.returns-clause-covers
returns-clause-covers c = all_taken (Covers c.args.first.now c.args.second.now c.loop-edge.matrix)
    c.segments-edge-items.result.now (edges c.args.first.now) c.loop-edge.edge-index c.loop-edge-test.false
    c.segments-edge-items.ensures c.loop-edge.invariant.covers
