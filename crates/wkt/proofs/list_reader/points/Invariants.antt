use Rattle.std.proofs.Common.{◌≡◌}
use Rattle.geometry_model.specs.TextReading.{separated, point}
use Rattle.wkt.proofs.Bodies.{behind}
use Rattle.wkt.proofs.list_reader.points.Given as goal

abbrev pub invariant-loop-points : goal.invariant-loop-points
invariant-loop-points l = separated point l.most l.fn.cursor ≡ behind l.points.items (separated point l.room l.cursor)

abbrev pub decreases-loop-points : goal.decreases-loop-points
decreases-loop-points l = l.room
