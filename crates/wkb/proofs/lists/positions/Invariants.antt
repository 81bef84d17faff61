use Rattle.std.proofs.Common.{◌≡◌, ◌+◌, ◌≤◌, ◌<◌, None, length, vec_len}
use Rattle.geometry_model.specs.WellKnownText.{position_limit, without_repeats}
use Rattle.wkt.specs.ReadingSteps.{last_of}
use Rattle.wkb.specs.BinaryReading.{positions}
use Rattle.wkb.proofs.Items.{behind}
use Rattle.wkb.proofs.lists.positions.Given as goal

abbrev pub invariant-loop-left : goal.invariant-loop-left
invariant-loop-left l = record {
  read : positions l.grid l.is_little l.count None l.fn.cursor
      ≡ behind l.positions.items (positions l.grid l.is_little l.left l.last l.cursor);
  steady : without_repeats l.positions.items ≡ l.positions.items;
  latest : l.last ≡ last_of l.positions.items;
  kept : l.cursor.kept ≡ l.fn.cursor.kept + vec_len l.positions;
  parts : l.cursor.parts ≡ l.fn.cursor.parts;
  within : vec_len l.positions ≤ position_limit;
  some : l.left < l.count → 0 < length l.positions.items;
  fewer : l.left ≤ l.count;
}

abbrev pub decreases-loop-left : goal.decreases-loop-left
decreases-loop-left l = l.left
