-- The lines or rings before this one have theirs.
use Rattle.std.proofs.Common.{◌≡◌, map, take}
use Rattle.geometry_model.specs.Geometries.{lines}
use Rattle.validity.specs.Rays.{first_of_ring}
use Rattle.validity.proofs.first_positions.FirstPositions.of_lines.Given as goal

abbrev pub invariant-loop-ring : goal.invariant-loop-ring
invariant-loop-ring l = l.positions.items ≡ map first_of_ring (take l.ring (lines l.outline))
