use Rattle.grammar_laws.proofs.SchemaLaws.{schema_of_complete}
use Rattle.grammar_laws.proofs.schema_laws.schema_is_read.Goals as goal

pub returns : goal.returns
returns g c = schema_of_complete
