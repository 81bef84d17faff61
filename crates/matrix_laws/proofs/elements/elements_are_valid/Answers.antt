use Rattle.geometry_model.specs.Geometries.{elements}
use Rattle.geometry_laws.proofs.Cuts.{among_from_contains}
use Rattle.matrix_laws.proofs.OneElement.{element_is_valid}
use Rattle.matrix_laws.proofs.elements.elements_are_valid.Goals as goal

pub returns : goal.returns
returns _ g v rs c = element_is_valid g v rs (among_from_contains (elements g) rs c)
