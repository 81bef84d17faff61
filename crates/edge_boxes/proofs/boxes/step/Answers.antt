use Rattle.edge_boxes.proofs.Steps.{box_before, step_shown, leaf_ordered, leaf_step, inner_step}
use Rattle.edge_boxes.proofs.boxes.step.Goals as goal

pub overflow_sub-result-in-Some : goal.overflow_sub-result-in-Some
overflow_sub-result-in-Some c = (box_before c.args.boxes.now c.args.edges.now c.args.place c.index-boxes-place.result c.requires.boxes c.requires.first c.requires.last c.index-boxes-place.is).subtree

pub run_of-leaf-requires-clause-ordered : goal.run_of-leaf-requires-clause-ordered
run_of-leaf-requires-clause-ordered c = rw c.covered.ensures (leaf_ordered c.args.boxes.now c.args.edges.now c.args.place c.index-boxes-place.result c.requires.boxes c.requires.first c.requires.last c.index-boxes-place.is c.if-last-eq0.true)

pub run_of-leaf-requires-clause-within : goal.run_of-leaf-requires-clause-within
run_of-leaf-requires-clause-within c = (box_before c.args.boxes.now c.args.edges.now c.args.place c.index-boxes-place.result c.requires.boxes c.requires.first c.requires.last c.index-boxes-place.is).run.within

pub returns-in-Some : goal.returns-in-Some
returns-in-Some c = step_shown c.args.boxes.now c.args.edges.now c.args.point.now c.args.place c.index-boxes-place.result c.args.cell.now c.in-Some.crossings c.requires.boxes c.requires.first c.requires.last c.index-boxes-place.is
    c.requires.cell (rw c.in-Some.is at c.said.ensures)

pub returns-in-None : goal.returns-in-None
returns-in-None c = leaf_step c.args.boxes.now c.args.edges.now c.args.point.now c.args.place c.index-boxes-place.result c.of_edges.result c.requires.boxes c.requires.first c.requires.last c.index-boxes-place.is c.if-last-eq0.true
    (rw (← c.covered.ensures, ← c.run_of-leaf.ensures) c.of_edges.ensures)

pub returns-in-None-2 : goal.returns-in-None-2
returns-in-None-2 c = inner_step c.args.boxes.now c.args.edges.now c.args.point.now c.args.place c.index-boxes-place.result c.none.result c.requires.boxes c.requires.first c.requires.last c.index-boxes-place.is c.if-last-eq0.false c.none.ensures
