use Rattle.std.proofs.Common.{◌∷◌}
use Rattle.geometry_model.specs.Geometries.{elements}
use Rattle.geometry_laws.proofs.Cuts.{among_from_contains}
use Rattle.matrix_laws.proofs.OneElement.{element_is_valid}
use Rattle.matrix_laws.proofs.Holes.{holes_are_cut}
use Rattle.matrix_laws.proofs.areas.holes_are_cut.Goals as goal

pub returns : goal.returns
returns _ g v outer holes a p hp off = holes_are_cut outer holes (element_is_valid g v (outer ∷ holes) (among_from_contains (elements g) (outer ∷ holes) a)) p hp off
