use Rattle.std.proofs.Common.{◌≡◌, take}
use Rattle.geometry_model.specs.Points.{point_at}
use Rattle.geometry_model.specs.Geometries.{edges_of_line}
use Rattle.witnesses.proofs.InsideFacts.{odd_edges}
use Rattle.witnesses.proofs.insides.is_inside_ring.Given as goal

-- the parity of the edges before this one
abbrev pub invariant-loop-index : goal.invariant-loop-index
invariant-loop-index l = l.is_odd ≡ odd_edges (point_at l.fn.at) (take l.index (edges_of_line l.ring))
