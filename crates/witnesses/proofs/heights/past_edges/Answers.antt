use Rattle.witnesses.specs.Heights.{ClearsEdge}
use Rattle.witnesses.proofs.HeightFacts.{keeps_both}
use Rattle.witnesses.proofs.Loops.{so_far}
use Rattle.witnesses.proofs.heights.past_edges.Goals as goal

pub loop-edge-preserved : goal.loop-edge-preserved
loop-edge-preserved c = record {
  height = c.past_edge-least.ensures.height;
  keeps = keeps_both c.args.side c.args.p.now c.args.nearest c.loop-edge.least c.past_edge-least.result c.loop-edge.invariant.keeps c.past_edge-least.ensures.keeps;
  clears = so_far (ClearsEdge c.args.side c.args.p.now c.past_edge-least.result) c.args.edges.now c.loop-edge.edge-index c.edge-item.result c.loop-edge-test.true c.edge-item.is c.past_edge-least.ensures.clears
      (λ k d l z i h. c.past_edge-least.ensures.keeps z i (c.loop-edge.invariant.clears k d l z i h));
}
