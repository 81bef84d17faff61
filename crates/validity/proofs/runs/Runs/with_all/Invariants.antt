-- The lines before the next are taken.
use Rattle.std.proofs.Common.{◌≡◌, ◌++◌, map, take}
use Rattle.geometry_model.specs.Geometries.{edges_of_line}
use Rattle.validity.proofs.runs.Runs.with_all.Given as goal

abbrev pub invariant-loop-line : goal.invariant-loop-line
invariant-loop-line l = l.runs ≡ l.fn.self ++ map edges_of_line (take l.line-index l.lines)
