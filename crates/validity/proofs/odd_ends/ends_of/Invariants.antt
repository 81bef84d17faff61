use Rattle.std.proofs.Common.{◌≡◌, flat_map, take}
use Rattle.geometry_model.specs.Locations.{ends}
use Rattle.validity.proofs.odd_ends.ends_of.Given as goal

-- the ends of the lines before this one
abbrev pub invariant-loop-line : goal.invariant-loop-line
invariant-loop-line l = l.ends.items ≡ flat_map ends (take l.line-index l.lines)
