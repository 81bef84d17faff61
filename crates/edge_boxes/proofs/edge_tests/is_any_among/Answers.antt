use Rattle.std.proofs.Common.{◌≤◌, length, sym, ◌∙◌, arith}
use Rattle.edge_boxes.proofs.BoxFacts.{covered_within}
use Rattle.edge_boxes.proofs.TestSteps.{one_uncovered, one_at_step}
use Rattle.edge_boxes.proofs.edge_tests.is_any_among.Goals as goal

pub run_of-uncovered-requires-clause-ordered : goal.run_of-uncovered-requires-clause-ordered
run_of-uncovered-requires-clause-ordered g c = rw c.covered.ensures (covered_within c.args.boxes.now c.args.edges.now (length c.args.boxes.now) c.requires.boxes (omega arith))

pub returns-then-is_any : goal.returns-then-is_any
returns-then-is_any g c =
    let within : c.covered.result ≤ length c.args.edges.now = rw c.covered.ensures (covered_within c.args.boxes.now c.args.edges.now (length c.args.boxes.now) c.requires.boxes (omega arith)) in
    sym (one_uncovered c.args.edges.now c.covered.result (g.T.EdgeTest.test c.args.test.now) c.run_of-uncovered.result.now within c.run_of-uncovered.ensures (sym c.is_any.ensures ∙ c.if-is_any.true))

pub returns-then-own : goal.returns-then-own
returns-then-own g c = sym (one_at_step c.args.boxes.now c.args.edges.now (g.T.EdgeTest.test c.args.test.now) c.loop-place.place c.test_step-next.result.0 c.test_step-next.result.1 c.test_step-next.ensures c.if-own.true)
