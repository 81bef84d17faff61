use Rattle.std.proofs.Common.{◌≡◌, take}
use Rattle.geometry_model.specs.Points.{point_at}
use Rattle.witnesses.proofs.InsideFacts.{odd_rings}
use Rattle.witnesses.proofs.insides.is_inside.Given as goal

-- the parity of the edges of the rings before this one
abbrev pub invariant-loop-ring : goal.invariant-loop-ring
invariant-loop-ring l = l.is_odd ≡ odd_rings (point_at l.at) (take l.ring-index l.rings)
