use Rattle.std.proofs.Common.{subst, sym, ap, ◌∙◌}
use Rattle.geometry_model.specs.Geometries.{lines}
use Rattle.edge_boxes.specs.BoxLists.{BoxesOf}
use Rattle.side_labels.proofs.LineKinds.{lines_end}
use Rattle.side_labels.proofs.location.locate.Goals as goal

pub locate_in_lines-requires-clause-ended : goal.locate_in_lines-requires-clause-ended
locate_in_lines-requires-clause-ended c = lines_end c.args.valid.now (sym c.kind.ensures ∙ c.in-Line.is) ∙ sym (c.lines.ensures.lines ∙ ap lines c.geometry-geometry.ensures.same)

pub locate_in_rings-requires-clause-boxes : goal.locate_in_rings-requires-clause-boxes
locate_in_rings-requires-clause-boxes c = subst (BoxesOf c.boxes.result.now) (sym c.segments.ensures) c.boxes.ensures
