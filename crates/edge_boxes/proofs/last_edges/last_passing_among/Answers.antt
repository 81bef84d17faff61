use Rattle.std.proofs.Common.{arith}
use Rattle.edge_boxes.proofs.Near.{none_in_both}
use Rattle.edge_boxes.proofs.last_edges.last_passing_among.Goals as goal

pub loop-place-preserved : goal.loop-place-preserved
loop-place-preserved g c =
    let s = c.step_back-next.ensures in
    let within = c.loop-place.invariant.within in
    let before = c.loop-place.invariant.before in
    let earlier = s.earlier in
    let back = s.back in
    record {
      within = omega (arith, within, earlier);
      before = omega (arith, before, back);
      none = none_in_both (g.T.EdgeTest.test c.args.test.now) c.args.edges.now c.step_back-next.result.1 c.loop-place.left
          c.args.end back before s.none c.loop-place.invariant.none;
      last = s.last;
    }
