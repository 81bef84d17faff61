use Rattle.std.proofs.Common.{length, arith}
use Rattle.edge_boxes.proofs.BoxFacts.{covered_within}
use Rattle.edge_boxes.proofs.boxes.crossings_among.Goals as goal

pub run_of-uncovered-requires-clause-ordered : goal.run_of-uncovered-requires-clause-ordered
run_of-uncovered-requires-clause-ordered c = rw c.covered.ensures (covered_within c.args.boxes.now c.args.edges.now (length c.args.boxes.now) c.requires (omega arith))
