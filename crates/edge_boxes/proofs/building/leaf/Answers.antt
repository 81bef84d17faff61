use Rattle.std.proofs.Common.{arith, rules}
use Rattle.edge_boxes.proofs.Growing.{run_and_one}
use Rattle.edge_boxes.proofs.building.leaf.Goals as goal

pub loop-end-preserved : goal.loop-end-preserved
loop-end-preserved c =
    let h = c.loop-end.invariant.later in
    record {
      later = omega (arith, h);
      run = run_and_one c.args.edges.now c.args.first c.loop-end.end c.index-edges-end.result c.loop-end.run c.of.result c.join-run.result (search rules) c.index-edges-end.is c.of.ensures c.join-run.ensures c.loop-end.invariant.run;
    }
