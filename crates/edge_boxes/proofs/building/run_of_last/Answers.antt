use Rattle.std.proofs.Common.{sym, subst, arith, rules}
use Rattle.edge_boxes.specs.Builds.{IsRunFrom}
use Rattle.edge_boxes.proofs.Growing.{run_more}
use Rattle.edge_boxes.proofs.building.run_of_last.Goals as goal

pub loop-left-preserved : goal.loop-left-preserved
loop-left-preserved c =
    let h = c.loop-left.invariant.within in
    let e = c.before-place-in-loop-left.ensures.value in
    record {
      within = omega (arith, h, e);
      run = subst (λ n. IsRunFrom c.args.boxes.now c.join-run.result n) (sym e) (run_more c.args.boxes.now c.loop-left.run c.join-run.result c.index-boxes-place.result c.loop-left.place (search rules) h c.index-boxes-place.is c.join-run.ensures c.loop-left.invariant.run);
    }
