use Rattle.std.proofs.Common.{◌≤◌, length}
use Rattle.geometry_model.specs.Geometries.{edges}
use Rattle.de9im.proofs.same_edges.find_same.Given as goal

abbrev pub invariant-loop : goal.invariant-loop
invariant-loop l = l.end ≤ length (edges l.second)
