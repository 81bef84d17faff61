use Rattle.std.proofs.Common.{refl, rules}
use Rattle.edge_boxes.proofs.Growing.{next_box}
use Rattle.edge_boxes.proofs.building.box_over_last.Goals as goal

pub returns : goal.returns
returns c = next_box c.args.boxes.now c.run_of_last-run.result.0 c.in_ok-last.last.now c.run_of_last-run.result.1 c.in_ok-size.size c.in_ok-last.last.now.end (search rules) c.run_of_last-run.ensures.before (search rules) refl c.run_of_last-run.ensures.run
