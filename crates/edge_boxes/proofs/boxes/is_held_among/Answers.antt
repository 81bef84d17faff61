use Rattle.std.proofs.Common.{◌≤◌, length, sym, ◌∙◌, arith}
use Rattle.edge_boxes.proofs.BoxFacts.{covered_within}
use Rattle.edge_boxes.proofs.Steps.{on_uncovered, on_at_step}
use Rattle.edge_boxes.proofs.boxes.is_held_among.Goals as goal

pub run_of-uncovered-requires-clause-ordered : goal.run_of-uncovered-requires-clause-ordered
run_of-uncovered-requires-clause-ordered c = rw c.covered.ensures (covered_within c.args.boxes.now c.args.edges.now (length c.args.boxes.now) c.requires (omega arith))

pub returns-then-of_edges : goal.returns-then-of_edges
returns-then-of_edges c =
    let within : c.covered.result ≤ length c.args.edges.now = rw c.covered.ensures (covered_within c.args.boxes.now c.args.edges.now (length c.args.boxes.now) c.requires (omega arith)) in
    sym (on_uncovered c.args.edges.now c.covered.result c.args.point.now c.run_of-uncovered.result.now within c.run_of-uncovered.ensures (sym c.of_edges.ensures.on ∙ c.if-of_edges.true))

pub returns-then-own : goal.returns-then-own
returns-then-own c = sym (on_at_step c.args.boxes.now c.args.edges.now c.args.point.now c.loop-place.place c.step-next.result.0 c.step-next.result.1 c.step-next.ensures c.if-own.true)
