use Rattle.edge_boxes.proofs.Steps.{box_before, leaf_ordered}
use Rattle.edge_boxes.proofs.Sharing.{skip_step, leaf_asked, inner_asked}
use Rattle.edge_boxes.proofs.sharing_edges.push_step.Goals as goal

pub overflow_sub-result-then-is_far : goal.overflow_sub-result-then-is_far
overflow_sub-result-then-is_far c = (box_before c.args.boxes.now c.args.edges.now c.args.place c.index-boxes-place.result c.requires.boxes c.requires.first c.requires.last c.index-boxes-place.is).subtree

pub returns-then-is_far : goal.returns-then-is_far
returns-then-is_far c = skip_step c.args.boxes.now c.args.edges.now c.args.asked.now c.args.place c.index-boxes-place.result c.args.found.now.items c.requires.boxes c.requires.first c.requires.last c.index-boxes-place.is
    (c.is_far.ensures c.if-is_far.true)

pub push_run-requires-clause-ordered : goal.push_run-requires-clause-ordered
push_run-requires-clause-ordered c = rw c.covered.ensures (leaf_ordered c.args.boxes.now c.args.edges.now c.args.place c.index-boxes-place.result c.requires.boxes c.requires.first c.requires.last c.index-boxes-place.is c.if-last-eq0.true)

pub push_run-requires-clause-within : goal.push_run-requires-clause-within
push_run-requires-clause-within c = (box_before c.args.boxes.now c.args.edges.now c.args.place c.index-boxes-place.result c.requires.boxes c.requires.first c.requires.last c.index-boxes-place.is).run.within

pub returns-then-last-eq0 : goal.returns-then-last-eq0
returns-then-last-eq0 c = leaf_asked c.args.boxes.now c.args.edges.now c.args.asked.now c.args.place c.index-boxes-place.result c.args.found.now.items c.push_run.new.found.items c.requires.boxes c.requires.first c.requires.last c.index-boxes-place.is c.if-last-eq0.true
    (rw c.covered.ensures at c.in_ok-push_run.ensures)

pub returns : goal.returns
returns c = inner_asked c.args.boxes.now c.args.edges.now c.args.asked.now c.args.place c.index-boxes-place.result c.args.found.now.items c.requires.boxes c.requires.first c.requires.last c.index-boxes-place.is c.if-last-eq0.false
