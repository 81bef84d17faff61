use Rattle.matrix_laws.proofs.Nested.{over_neither}
use Rattle.matrix_laws.proofs.Holes.{disjoint_from}
use Rattle.matrix_laws.proofs.nesting.nothing_is_odd_over_both.Goals as goal

pub returns : goal.returns
returns _ r s a h k p hp o q = over_neither r s a.first_closed a.second_closed (disjoint_from r s a.apart) h k p hp o q
