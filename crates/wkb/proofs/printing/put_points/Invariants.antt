use Rattle.std.proofs.Common.{◌≡◌, ◌++◌, take}
use Rattle.std.specs.List.{flat_map}
use Rattle.wkb.specs.BinaryPrinting.{point_element}
use Rattle.wkb.proofs.printing.put_points.Given as goal

abbrev pub invariant-loop-index : goal.invariant-loop-index
invariant-loop-index l = l.bytes.items ≡ l.initial.bytes.items ++ flat_map (point_element l.grid) (take l.index l.points)
