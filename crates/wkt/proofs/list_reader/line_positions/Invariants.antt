use Rattle.std.specs.Prelude.{◌≡◌, ◌+◌, ◌≤◌, vec_len}
use Rattle.geometry_model.specs.TextReading.{separated, position}
use Rattle.geometry_model.specs.WellKnownText.{without_repeats}
use Rattle.wkt.specs.ReadingSteps.{line_positions, last_of}
use Rattle.wkt.proofs.Repeats.{behind_kept}
use Rattle.wkt.proofs.list_reader.line_positions.Given as goal

abbrev pub invariant-loop-positions : goal.invariant-loop-positions
invariant-loop-positions l = record {
  read : line_positions l.most l.fn.cursor ≡ behind_kept l.positions.items l.room (separated position l.room l.cursor);
  steady : without_repeats l.positions.items ≡ l.positions.items;
  latest : l.last ≡ last_of l.positions.items;
  counted : vec_len l.positions + l.room ≤ l.most;
}

abbrev pub decreases-loop-positions : goal.decreases-loop-positions
decreases-loop-positions l = l.room
