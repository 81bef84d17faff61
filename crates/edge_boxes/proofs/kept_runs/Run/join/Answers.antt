use Rattle.edge_boxes.proofs.RunSums.{lie_joined}
use Rattle.edge_boxes.proofs.kept_runs.Run.join.Goals as goal

pub returns : goal.returns
returns c xs ys h k = record {
  lies = rw c.join.ensures (lie_joined c.args.self.bounds c.args.later.bounds xs ys h.lies k.lies);
  ends = c.join_ends.ensures xs ys h.ends k.ends;
  strip = tt;
}
