use Rattle.std.proofs.Common.{◌≡◌, ◌≤◌, ℕ}
use Rattle.geometry_model.specs.TextReading.{polygon}
use Rattle.geometry_model.specs.WellKnownText.{position_limit, without_repeats}
use Rattle.std.proofs.Common.{map}
use Rattle.text_laws.proofs.RoomLists.{items, itself}
use Rattle.wkt.specs.ReadingSteps as steps
use Rattle.wkt.proofs.Rooms.{behind_made}
use Rattle.wkt.proofs.list_reader.polygons.Given as goal

abbrev pub invariant-loop-polygons : goal.invariant-loop-polygons
invariant-loop-polygons l = record {
  turns : ℕ;
  enough : l.room.parts ≤ turns;
  read : steps.polygons l.fn.most l.fn.cursor ≡ behind_made (map without_repeats) itself l.polygons l.room (items polygon itself turns l.room.parts l.room.positions l.cursor);
  within : l.room.positions ≤ position_limit;
}

abbrev pub decreases-loop-polygons : goal.decreases-loop-polygons
decreases-loop-polygons l = l.room.parts
