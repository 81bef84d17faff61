use Rattle.std.proofs.Common.{sym, ◌∙◌}
use Rattle.std.proofs.lemmas.List.Sorted.{list_any-IsPermutation}
use Rattle.edge_boxes.specs.OneLine.{overlap_on_one_line}
use Rattle.edge_boxes.proofs.boxes.EdgeBoxes.overlaps_on_line.Goals as goal

pub returns : goal.returns
returns c = c.is_one_on_line_among.ensures
    ∙ sym (list_any-IsPermutation (overlap_on_one_line c.args.edge.now) c.args.edges.now c.laid-laid.result.edges.now
    c.laid-laid.ensures.moved)
