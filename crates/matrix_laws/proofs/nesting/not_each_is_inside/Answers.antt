use Rattle.matrix_laws.proofs.Nested.{not_each_in}
use Rattle.matrix_laws.proofs.Holes.{disjoint_from}
use Rattle.matrix_laws.proofs.nesting.not_each_is_inside.Goals as goal

pub returns : goal.returns
returns _ r s a h k = not_each_in r s a.first_closed a.second_closed (disjoint_from r s a.apart) h k
