use Rattle.grammar_laws.proofs.SchemaLaws.{given_is_schema}
use Rattle.grammar_laws.proofs.schema_laws.read_is_schema.Goals as goal

pub returns : goal.returns
returns g c = given_is_schema
