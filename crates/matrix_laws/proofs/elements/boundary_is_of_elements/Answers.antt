use Rattle.matrix_laws.proofs.AreaFacts.{boundary_is_of_elements}
use Rattle.matrix_laws.proofs.elements.boundary_is_of_elements.Goals as goal

pub returns : goal.returns
returns c = boundary_is_of_elements
