use Rattle.grammar_laws.proofs.SchemaLaws.{one_schema}
use Rattle.grammar_laws.proofs.schema_laws.one_schema.Goals as goal

pub returns : goal.returns
returns g c = one_schema
