use Rattle.edge_boxes.proofs.Steps.{box_before, leaf_ordered}
use Rattle.edge_boxes.proofs.TestSteps.{test_skip, test_leaf, test_inner}
use Rattle.edge_boxes.proofs.edge_tests.test_step.Goals as goal

pub overflow_sub-result-then-rules_out : goal.overflow_sub-result-then-rules_out
overflow_sub-result-then-rules_out g c = (box_before c.args.boxes.now c.args.edges.now c.args.place c.index-boxes-place.result c.requires.boxes c.requires.first c.requires.last c.index-boxes-place.is).subtree

pub returns-then-rules_out : goal.returns-then-rules_out
returns-then-rules_out g c = test_skip c.args.boxes.now c.args.edges.now (g.T.EdgeTest.test c.args.test.now) c.args.place c.index-boxes-place.result c.requires.boxes c.requires.first c.requires.last c.index-boxes-place.is (c.rules_out.ensures c.if-rules_out.true)

pub run_of-leaf-requires-clause-ordered : goal.run_of-leaf-requires-clause-ordered
run_of-leaf-requires-clause-ordered g c = rw c.covered.ensures (leaf_ordered c.args.boxes.now c.args.edges.now c.args.place c.index-boxes-place.result c.requires.boxes c.requires.first c.requires.last c.index-boxes-place.is c.if-last-eq0.true)

pub run_of-leaf-requires-clause-within : goal.run_of-leaf-requires-clause-within
run_of-leaf-requires-clause-within g c = (box_before c.args.boxes.now c.args.edges.now c.args.place c.index-boxes-place.result c.requires.boxes c.requires.first c.requires.last c.index-boxes-place.is).run.within

pub returns-then-last-eq0 : goal.returns-then-last-eq0
returns-then-last-eq0 g c = test_leaf c.args.boxes.now c.args.edges.now (g.T.EdgeTest.test c.args.test.now) c.args.place c.index-boxes-place.result c.is_any.result c.requires.boxes c.requires.first c.requires.last c.index-boxes-place.is c.if-last-eq0.true
    (rw (← c.covered.ensures, ← c.run_of-leaf.ensures) c.is_any.ensures)

pub returns : goal.returns
returns g c = test_inner c.args.boxes.now c.args.edges.now (g.T.EdgeTest.test c.args.test.now) c.args.place c.index-boxes-place.result c.requires.boxes c.requires.first c.requires.last c.index-boxes-place.is c.if-last-eq0.false
