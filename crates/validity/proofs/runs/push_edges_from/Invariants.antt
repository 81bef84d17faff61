-- The edges up to the next position's predecessor are kept; those from there on are still to come.
use Rattle.std.proofs.Common.{◌≡◌, ◌∷◌, ◌++◌, drop}
use Rattle.std.specs.List.{All}
use Rattle.geometry_model.specs.Geometries.{edges_of_line}
use Rattle.validity.specs.Runs.{HasLength}
use Rattle.validity.proofs.runs.push_edges_from.Given as goal

abbrev pub invariant-loop-end : goal.invariant-loop-end
invariant-loop-end l = record {
  kept : l.segments.items ++ edges_of_line (l.start ∷ drop l.end-index l.more) ≡ l.initial.segments.items ++ edges_of_line (l.fn.first ∷ l.more);
  long : All HasLength (edges_of_line (l.start ∷ drop l.end-index l.more));
}
