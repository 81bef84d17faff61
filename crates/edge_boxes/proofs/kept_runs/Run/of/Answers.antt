use Rattle.edge_boxes.proofs.RunSums.{own_bounds}
use Rattle.edge_boxes.proofs.kept_runs.Run.of.Goals as goal

pub returns : goal.returns
returns c = record {
  lies = rw c.of.ensures (own_bounds c.args.edge.now, tt);
  ends = c.ends_of.ensures;
  strip = tt;
}
