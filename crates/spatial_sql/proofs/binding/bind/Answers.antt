use Rattle.std.proofs.Common.{rules}
use Rattle.spatial_sql.proofs.binding.bind.Goals as goal

pub returns-clause-answer : goal.returns-clause-answer
returns-clause-answer g c = search rules

pub returns-clause-bound : goal.returns-clause-bound
returns-clause-bound g c = search rules
