use Rattle.std.proofs.Common.{◌≡◌}
use Rattle.wkb.specs.BinaryReading.{several, line_element}
use Rattle.wkb.specs.ReadingSteps.{AddsParts}
use Rattle.wkb.proofs.Items.{behind}
use Rattle.wkb.proofs.elements.lines.Given as goal

abbrev pub invariant-loop-left : goal.invariant-loop-left
invariant-loop-left l = record {
  read : several (line_element l.grid) l.count l.fn.cursor ≡ behind l.lines.items (several (line_element l.grid) l.left l.cursor);
  added : AddsParts l.fn.cursor l.lines.items l.cursor;
}

abbrev pub decreases-loop-left : goal.decreases-loop-left
decreases-loop-left l = l.left
