use Rattle.spatial_sql.proofs.FreeConditionLemmas.{free_none}
use Rattle.spatial_sql.proofs.free_conditions.is_free.Goals as goal

pub returns-clause-none : goal.returns-clause-none
returns-clause-none c = free_none c.args.condition.now c.lacks_predicates.result c.lacks_predicates.ensures
