use Rattle.std.proofs.Common.{sym, ◌∙◌}
use Rattle.std.proofs.lemmas.List.Sorted.{list_any-IsPermutation}
use Rattle.geometry_model.specs.Sides.{on}
use Rattle.edge_boxes.proofs.boxes.EdgeBoxes.holds.Goals as goal

pub returns : goal.returns
returns c = c.is_held_among.ensures
    ∙ sym (list_any-IsPermutation (λ e. on e c.args.point.now) c.args.edges.now c.laid-laid.result.edges.now
    c.laid-laid.ensures.moved)
