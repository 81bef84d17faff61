use Rattle.std.proofs.Common.{◌<◌, sym, ◌∙◌, arith, rules}
use Rattle.edge_boxes.proofs.Near.{one_back}
use Rattle.edge_boxes.proofs.last_edges.last_in_run.Goals as goal

pub loop-left-preserved : goal.loop-left-preserved
loop-left-preserved g c =
    let h = c.loop-left.invariant.before in
    let l : c.args.first < c.loop-left.left = search rules in
    record {
      before = omega (arith, h);
      none = one_back (g.T.EdgeTest.test c.args.test.now) c.args.edges.now c.loop-left.left c.args.end c.index-edges-left.result
          (omega (arith, l)) h c.requires.end c.index-edges-left.is (sym c.passes.ensures ∙ c.if-passes.false)
          c.loop-left.invariant.none;
    }
