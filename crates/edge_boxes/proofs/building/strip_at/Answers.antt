use Rattle.edge_boxes.proofs.StripTaking.{box_at, covered_up_to, strip_of_box}
use Rattle.edge_boxes.proofs.building.strip_at.Goals as goal

pub overflow_sub-place : goal.overflow_sub-place
overflow_sub-place c = (covered_up_to c.args.boxes.now c.args.edges.now c.args.place c.index-boxes-place.result c.requires.boxes c.requires.place c.index-boxes-place.is).subtree

pub run_of-own-requires-clause-ordered : goal.run_of-own-requires-clause-ordered
run_of-own-requires-clause-ordered c = rw c.covered.ensures ((covered_up_to c.args.boxes.now c.args.edges.now c.args.place c.index-boxes-place.result c.requires.boxes c.requires.place c.index-boxes-place.is).run.ordered)

pub run_of-own-requires-clause-within : goal.run_of-own-requires-clause-within
run_of-own-requires-clause-within c = (covered_up_to c.args.boxes.now c.args.edges.now c.args.place c.index-boxes-place.result c.requires.boxes c.requires.place c.index-boxes-place.is).run.within

pub returns-then-own-le-STRIP_EDGES : goal.returns-then-own-le-STRIP_EDGES
returns-then-own-le-STRIP_EDGES c = strip_of_box c.args.boxes.now c.args.edges.now c.run_of-own.result.now c.args.place c.covered.result c.index-boxes-place.result c.of.result
    (box_at c.args.boxes.now c.args.place c.index-boxes-place.result c.requires.place c.index-boxes-place.is) c.covered.ensures c.run_of-own.ensures c.of.ensures
