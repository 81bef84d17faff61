use Rattle.std.proofs.Common.{rules}
use Rattle.spatial_sql.proofs.condition_binding.relation.Goals as goal

pub returns : goal.returns
returns c = search rules

pub returns-in_err-left : goal.returns-in_err-left
returns-in_err-left c = search rules
