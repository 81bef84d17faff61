use Rattle.std.proofs.Common.{◌≡◌}
use Rattle.geometry_model.specs.Geometries.{joined_rings}
use Rattle.wkb.specs.BinaryReading.{several, polygon}
use Rattle.wkb.specs.ReadingSteps.{AddsParts}
use Rattle.wkb.proofs.Items.{behind}
use Rattle.wkb.proofs.elements.polygons.Given as goal

abbrev pub invariant-loop-left : goal.invariant-loop-left
invariant-loop-left l = record {
  read : several (polygon l.grid) l.count l.fn.cursor ≡ behind l.polygons (several (polygon l.grid) l.left l.cursor);
  added : AddsParts l.fn.cursor (joined_rings l.polygons) l.cursor;
}

abbrev pub decreases-loop-left : goal.decreases-loop-left
decreases-loop-left l = l.left
