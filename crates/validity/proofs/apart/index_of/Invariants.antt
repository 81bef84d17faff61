-- The edges before this one have theirs.
use Rattle.std.proofs.Common.{◌≡◌, map, take, Some}
use Rattle.geometry_model.specs.Geometries.{Edge}
use Rattle.edge_boxes.specs.RunLaws.{box_of}
use Rattle.validity.proofs.apart.index_of.Given as goal

abbrev pub invariant-loop-edge : goal.invariant-loop-edge
invariant-loop-edge l = l.envelopes.items ≡ map (λ (e : Edge). Some (box_of e)) (take l.edge-index l.edges)
