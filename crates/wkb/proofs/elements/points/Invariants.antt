use Rattle.std.proofs.Common.{◌≡◌, length}
use Rattle.wkb.specs.BinaryReading.{several, point}
use Rattle.wkb.specs.ReadingSteps.{Adds}
use Rattle.wkb.proofs.Items.{behind}
use Rattle.wkb.proofs.elements.points.Given as goal

abbrev pub invariant-loop-left : goal.invariant-loop-left
invariant-loop-left l = record {
  read : several (point l.grid) l.count l.fn.cursor ≡ behind l.points.items (several (point l.grid) l.left l.cursor);
  added : Adds l.fn.cursor (length l.points.items) 0 l.cursor;
}

abbrev pub decreases-loop-left : goal.decreases-loop-left
decreases-loop-left l = l.left
