use Rattle.std.proofs.Common.{map}
use Rattle.std.specs.List.{slice_get}
use Rattle.std.proofs.lemmas.Result.{IfOk-weaker}
use Rattle.geometry_model.specs.Geometries.{lines, edges_of_line}
use Rattle.edge_boxes.specs.BoxLists.{BoxesOf}
use Rattle.validity.proofs.PartFacts.{boxes_of_run}
use Rattle.validity.proofs.outlines.Outline.line_boxes.Goals as goal

pub returns : goal.returns
returns c = IfOk-weaker c.build.result (λ boxes. BoxesOf boxes c.line_edges.result.now) _
    (λ boxes are. boxes_of_run boxes (slice_get (map edges_of_line (lines c.args.self.now)) c.args.line) c.line_edges.result.now c.line_edges.ensures are) c.build.ensures
