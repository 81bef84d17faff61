use Rattle.edge_boxes.proofs.Growing.{keeps_joined}
use Rattle.edge_boxes.proofs.building.join_last.Goals as goal

pub returns-in_ok-push : goal.returns-in_ok-push
returns-in_ok-push c = keeps_joined c.args.boxes.now.items c.push.new.self.items c.in-Some.joined (rw c.as_slice.ensures.value at c.in-Some.ensures) c.in_ok-push.ensures.items
