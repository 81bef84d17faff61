use Rattle.std.proofs.Common.{sym, subst, ap₂, ◌∙◌, List}
use Rattle.std.specs.Prelude.{slice_range}
use Rattle.geometry_model.specs.Geometries.{Edge}
use Rattle.edge_boxes.specs.BoxLists.{BoxesOf}
use Rattle.edge_boxes.specs.OneLine.{edges_overlap}
use Rattle.de9im.proofs.matrix_edges.left_overlapping.Goals as goal

pub last_overlapping-requires-clause-boxes : goal.last_overlapping-requires-clause-boxes
last_overlapping-requires-clause-boxes c = subst (BoxesOf c.boxes.result.now) (sym c.segments.ensures) c.boxes.ensures

pub last_overlapping-requires-clause-others : goal.last_overlapping-requires-clause-others
last_overlapping-requires-clause-others c = subst (BoxesOf c.boxes-2.result.now) (sym c.segments-2.ensures) c.boxes-2.ensures

pub returns-clause-none : goal.returns-clause-none
returns-clause-none c =
    sym (ap₂ (λ (es fs : List Edge). edges_overlap (slice_range es c.last_overlapping.result c.args.end) fs) c.segments.ensures
    c.segments-2.ensures) ∙ c.last_overlapping.ensures.none
