use Rattle.std.proofs.Common.{◌∷◌}
use Rattle.geometry_model.specs.Geometries.{edges_of_line, elements}
use Rattle.geometry_laws.proofs.Cuts.{among_from_contains}
use Rattle.matrix_laws.proofs.OneElement.{element_is_valid}
use Rattle.matrix_laws.proofs.Holes.{hole_ring_is_inside}
use Rattle.matrix_laws.proofs.areas.hole_ring_is_inside.Goals as goal

pub returns : goal.returns
returns _ g v outer holes a hole h p hp e m k = hole_ring_is_inside outer holes (element_is_valid g v (outer ∷ holes) (among_from_contains (elements g) (outer ∷ holes) a)) hole (among_from_contains holes hole h) p hp e (among_from_contains (edges_of_line hole) e m) k
