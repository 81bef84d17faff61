use Rattle.matrix_laws.proofs.AreaFacts.{interior_is_of_an_element}
use Rattle.matrix_laws.proofs.elements.interior_is_of_an_element.Goals as goal

pub returns : goal.returns
returns c = interior_is_of_an_element
