use Rattle.std.proofs.Common.{get_or}
use Rattle.geometry_model.specs.Points.{point_at}
use Rattle.witnesses.specs.Heights.{ClearsPosition}
use Rattle.witnesses.proofs.HeightFacts.{keeps_both}
use Rattle.witnesses.proofs.Loops.{so_far}
use Rattle.witnesses.proofs.heights.past_positions.Goals as goal

pub loop-position-preserved : goal.loop-position-preserved
loop-position-preserved c = record {
  height = c.past_position-least.ensures.height;
  keeps = keeps_both c.args.side c.args.p.now c.args.nearest c.loop-position.least c.past_position-least.result c.loop-position.invariant.keeps c.past_position-least.ensures.keeps;
  clears = so_far (ClearsPosition c.args.side c.args.p.now c.past_position-least.result) c.args.positions.now c.loop-position.position-index c.position-item.result c.loop-position-test.true c.position-item.is c.past_position-least.ensures.clears
      (λ k d l i. c.past_position-least.ensures.keeps (point_at (get_or c.args.positions.now k d)) i (c.loop-position.invariant.clears k d l i));
}
