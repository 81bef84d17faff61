use Rattle.std.proofs.Common.{◌≡◌, ◌≤◌}
use Rattle.geometry_model.specs.WellKnownText.{position_limit, without_repeats}
use Rattle.text_laws.proofs.RoomLists.{items, ring, alone}
use Rattle.wkt.specs.ReadingSteps as steps
use Rattle.wkt.proofs.Rooms.{behind_made}
use Rattle.wkt.proofs.list_reader.rings.Given as goal

abbrev pub invariant-loop-rings : goal.invariant-loop-rings
invariant-loop-rings l = record {
  read : steps.rings l.fn.most l.fn.cursor ≡ behind_made without_repeats alone l.rings.items l.room (items ring alone l.room.parts l.room.parts l.room.positions l.cursor);
  within : l.room.positions ≤ position_limit;
  fewer : l.room.parts ≤ l.fn.most.parts;
}

abbrev pub decreases-loop-rings : goal.decreases-loop-rings
decreases-loop-rings l = l.room.parts
