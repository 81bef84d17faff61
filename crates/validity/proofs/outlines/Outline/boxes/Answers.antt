use Rattle.std.proofs.Common.{subst, List}
use Rattle.std.specs.Prelude.{IfOk}
use Rattle.geometry_model.specs.Geometries.{Edge}
use Rattle.edge_boxes.specs.BoxLists.{BoxesOf}
use Rattle.validity.proofs.outlines.Outline.boxes.Goals as goal

pub returns : goal.returns
returns c = subst (λ (edges : List Edge). IfOk c.build.result (λ boxes. BoxesOf boxes edges)) c.segments.ensures c.build.ensures
