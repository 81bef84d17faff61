use Rattle.std.proofs.Common.{arith}
use Rattle.de9im.specs.Raising.{IsUprightOutside}
use Rattle.de9im.proofs.OutsideEdges.{one_more}
use Rattle.de9im.proofs.outside_edges.left_upright.Goals as goal

pub loop-left-preserved : goal.loop-left-preserved
loop-left-preserved c =
    let within = c.loop-left.invariant.before in
    record {
      before = omega (arith, within);
      outside = one_more (IsUprightOutside c.args.around.now) c.args.segments.now c.loop-left.left c.args.end c.index-segments-left.result c.loop-left-test.true within c.requires c.index-segments-left.is
          (c.is_upright_outside.ensures c.if-is_upright_outside.true) c.loop-left.invariant.outside;
    }
