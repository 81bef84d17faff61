use Rattle.std.proofs.Common.{◌<◌, arith, rules}
use Rattle.edge_boxes.proofs.Sharing.{found_before_end}
use Rattle.edge_boxes.proofs.sharing_edges.push_run.Goals as goal

pub loop-at-preserved : goal.loop-at-preserved
loop-at-preserved c =
    let h = c.loop-at.invariant.ordered in
    let k = c.loop-at.invariant.within in
    let l : c.args.first < c.loop-at.at = search rules in
    record {
      ordered = omega (arith, l);
      within = omega (arith, k);
      found = found_before_end c.args.asked.now c.args.edges.now c.loop-at.at c.args.end c.index-edges-at.result c.is_asked.result c.args.found.now.items c.loop-at.found.items c.push_if.new.found.items (omega (arith, l)) k c.requires.within c.index-edges-at.is
          c.is_asked.ensures c.in_ok-push_if.ensures c.loop-at.invariant.found;
    }
