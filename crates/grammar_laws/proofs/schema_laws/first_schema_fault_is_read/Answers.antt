use Rattle.grammar_laws.proofs.SchemaFirst.{first_is_read}
use Rattle.grammar_laws.proofs.schema_laws.first_schema_fault_is_read.Goals as goal

pub returns : goal.returns
returns g c = first_is_read
