use Rattle.std.proofs.Common.{◌<◌, arith, rules}
use Rattle.edge_boxes.proofs.BoxFacts.{covered_within}
use Rattle.edge_boxes.proofs.Steps.{box_before}
use Rattle.edge_boxes.proofs.Near.{skip_back, enter_back}
use Rattle.edge_boxes.proofs.last_edges.step_back.Goals as goal

pub overflow_sub-next-2 : goal.overflow_sub-next-2
overflow_sub-next-2 g c = (box_before c.args.boxes.now c.args.edges.now c.args.place c.index-boxes-place.result c.requires.boxes c.requires.first c.requires.last c.index-boxes-place.is).subtree

pub returns-then-rules_out : goal.returns-then-rules_out
returns-then-rules_out g c =
    let behind : c.covered-first.result < c.args.left = search rules in
    skip_back c.args.boxes.now c.args.edges.now (g.T.EdgeTest.test c.args.test.now) c.args.place c.args.left c.covered-first.result c.index-boxes-place.result c.requires.boxes c.requires.first c.requires.last c.index-boxes-place.is
    c.requires.left c.covered-first.ensures behind (c.rules_out.ensures c.if-rules_out.true)

pub last_in_run-requires-clause-end : goal.last_in_run-requires-clause-end
last_in_run-requires-clause-end g c =
    let h = covered_within c.args.boxes.now c.args.edges.now c.args.place c.requires.boxes c.requires.last in
    let k = c.requires.left in
    omega (arith, h, k)

pub returns : goal.returns
returns g c = enter_back c.args.boxes.now c.args.edges.now (g.T.EdgeTest.test c.args.test.now) c.args.place c.args.left c.index-boxes-place.result c.requires.boxes c.requires.first c.requires.last c.index-boxes-place.is c.requires.left c.if-last-eq0.false
