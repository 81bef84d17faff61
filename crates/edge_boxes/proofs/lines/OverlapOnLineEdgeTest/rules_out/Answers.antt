use Rattle.edge_boxes.proofs.OverlapFacts.{none_on_line}
use Rattle.edge_boxes.proofs.lines.OverlapOnLineEdgeTest.rules_out.Goals as goal

pub returns : goal.returns
returns c far es sums = none_on_line c.args.self.now.edge es (c.is_far.ensures far es sums)
