use Rattle.std.specs.Prelude.{◌≡◌, drop}
use Rattle.std.specs.Option.{option_map}
use Rattle.wkb.specs.Extents.{reach_in, reach_with}
use Rattle.wkb.proofs.extents.widen.Given as goal

abbrev pub invariant-loop-position : goal.invariant-loop-position
invariant-loop-position l = reach_with (option_map reach_in l.fn.extent) l.fn.positions
    ≡ reach_with (option_map reach_in l.found) (drop l.position-index l.fn.positions)
