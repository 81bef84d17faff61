use Rattle.std.proofs.Common.{◌≡◌, ◌++◌, take}
use Rattle.std.specs.List.{flat_map}
use Rattle.wkb.specs.BinaryPrinting.{position_bytes}
use Rattle.wkb.proofs.printing.put_line.Given as goal

abbrev pub invariant-loop-index : goal.invariant-loop-index
invariant-loop-index l = l.bytes.items ≡ l.initial.bytes.items ++ flat_map (position_bytes l.grid) (take l.index l.positions)
