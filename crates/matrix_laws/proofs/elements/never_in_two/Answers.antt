use Rattle.matrix_laws.proofs.AreaFacts.{never_in_two}
use Rattle.matrix_laws.proofs.elements.never_in_two.Goals as goal

pub returns : goal.returns
returns c = never_in_two
