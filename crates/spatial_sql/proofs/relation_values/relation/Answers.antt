use Rattle.std.proofs.Common.{rules}
use Rattle.spatial_sql.proofs.relation_values.relation.Goals as goal

pub returns-in-Some-Some-clause-truth : goal.returns-in-Some-Some-clause-truth
returns-in-Some-Some-clause-truth c = λ matrix gives. rw (c.in-Some-Some.is-0, c.in-Some-Some.is-1) (c.related.ensures.truth matrix gives)

pub returns-in_default-clause-truth : goal.returns-in_default-clause-truth
returns-in_default-clause-truth c = search rules
