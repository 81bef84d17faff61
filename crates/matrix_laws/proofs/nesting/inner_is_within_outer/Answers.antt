use Rattle.matrix_laws.proofs.Nested.{carried_in}
use Rattle.matrix_laws.proofs.Holes.{disjoint_from}
use Rattle.matrix_laws.proofs.nesting.inner_is_within_outer.Goals as goal

pub returns : goal.returns
returns _ r s a h p hp o = carried_in r s a.first_closed a.second_closed (disjoint_from r s a.apart) h p hp o
