use Rattle.std.proofs.Common.{rules}
use Rattle.spatial_sql.proofs.query_binding.bound_query.Goals as goal

pub returns-in_err-filtering-clause-answer : goal.returns-in_err-filtering-clause-answer
returns-in_err-filtering-clause-answer c = search rules

pub returns-clause-answer : goal.returns-clause-answer
returns-clause-answer c = search rules
