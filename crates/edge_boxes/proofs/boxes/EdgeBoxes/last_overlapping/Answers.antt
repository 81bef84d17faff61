use Rattle.std.proofs.Common.{sym, ◌∙◌, slice_range}
use Rattle.edge_boxes.specs.OneLine.{overlap_on_one_line}
use Rattle.edge_boxes.proofs.OtherOrders.{others_kept, ends_kept}
use Rattle.edge_boxes.proofs.boxes.EdgeBoxes.last_overlapping.Goals as goal

pub last_overlapping_among-requires-clause-boxes : goal.last_overlapping_among-requires-clause-boxes
last_overlapping_among-requires-clause-boxes c = rw c.as_slice.ensures.value c.requires.boxes.boxes

pub returns-clause-none : goal.returns-clause-none
returns-clause-none c =
    sym (others_kept overlap_on_one_line (slice_range c.args.edges.now c.last_overlapping_among.result c.args.end)
    c.args.others.now c.laid-other.result.edges.now c.laid-other.ensures.moved) ∙ c.last_overlapping_among.ensures.none

pub returns-clause-last : goal.returns-clause-last
returns-clause-last c some = ends_kept overlap_on_one_line c.args.edges.now c.args.others.now c.laid-other.result.edges.now
    c.last_overlapping_among.result c.laid-other.ensures.moved (c.last_overlapping_among.ensures.last some)
