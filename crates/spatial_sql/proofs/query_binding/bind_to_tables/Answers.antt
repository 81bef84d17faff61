-- What binding returns is bound to the definitions.
use Rattle.grammar_laws.proofs.BoundFacts.{geometry_answer_is_bound}
use Rattle.spatial_sql.proofs.query_binding.bind_to_tables.Goals as goal

pub returns-clause-bound : goal.returns-clause-bound
returns-clause-bound c = geometry_answer_is_bound c.args.definitions.now c.args.query.now c.bound_query.result c.bound_query.ensures.few c.bound_query.ensures.answer
