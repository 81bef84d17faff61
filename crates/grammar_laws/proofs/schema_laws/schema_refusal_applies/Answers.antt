use Rattle.grammar_laws.proofs.SchemaRefused.{schema_of_applies}
use Rattle.grammar_laws.proofs.schema_laws.schema_refusal_applies.Goals as goal

pub returns : goal.returns
returns g c = schema_of_applies
