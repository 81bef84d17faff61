use Rattle.geometry_model.specs.Geometries.{edges_of_line, rings}
use Rattle.matrix_laws.proofs.Parting.{sides_of_a_ring}
use Rattle.matrix_laws.proofs.Places.{place_from_contains}
use Rattle.matrix_laws.proofs.areas.sides_of_a_ring.Goals as goal

pub returns : goal.returns
returns _ g v ring r e m p hp h s t f = sides_of_a_ring g v r.0 ring (place_from_contains (rings g) ring r) m.0 e (place_from_contains (edges_of_line ring) e m) p hp h s t f
