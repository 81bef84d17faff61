use Rattle.std.proofs.Common.{◌≡◌}
use Rattle.wkb.specs.BinaryReading.{several, part}
use Rattle.wkb.specs.ReadingSteps.{AddsParts}
use Rattle.wkb.proofs.Items.{behind}
use Rattle.wkb.proofs.lists.parts.Given as goal

abbrev pub invariant-loop-left : goal.invariant-loop-left
invariant-loop-left l = record {
  read : several (part l.grid l.is_little) l.count l.fn.cursor
      ≡ behind l.rings.items (several (part l.grid l.is_little) l.left l.cursor);
  added : AddsParts l.fn.cursor l.rings.items l.cursor;
}

abbrev pub decreases-loop-left : goal.decreases-loop-left
decreases-loop-left l = l.left
