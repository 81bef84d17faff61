use Rattle.std.proofs.Common.{inl}
use Rattle.edge_boxes.proofs.Growing.{next_leaf}
use Rattle.edge_boxes.proofs.building.push_leaf.Goals as goal

pub returns-in_ok-push-in-Some-clause-boxes : goal.returns-in_ok-push-in-Some-clause-boxes
returns-in_ok-push-in-Some-clause-boxes c = (next_leaf c.args.boxes.now.items c.push.new.self.items c.args.edges.now c.leaf-run.result.0 c.args.first c.leaf-run.result.1 c.in-Some.leaf c.requires.boxes c.requires.from c.leaf-run.ensures.run c.in-Some.ensures c.in_ok-push-in-Some.ensures.items).0

pub returns-in_ok-push-in-Some-clause-end : goal.returns-in_ok-push-in-Some-clause-end
returns-in_ok-push-in-Some-clause-end c = record {
  later = c.leaf-run.ensures.later;
  from = inl ((next_leaf c.args.boxes.now.items c.push.new.self.items c.args.edges.now c.leaf-run.result.0 c.args.first c.leaf-run.result.1 c.in-Some.leaf c.requires.boxes c.requires.from c.leaf-run.ensures.run c.in-Some.ensures c.in_ok-push-in-Some.ensures.items).1);
  within = c.leaf-run.ensures.run.within;
}
