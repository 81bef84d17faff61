use Rattle.table_laws.proofs.MarkFacts.{fields_behind_are_unwritten}
use Rattle.table_laws.proofs.mark_laws.fields_behind_are_unwritten.Goals as goal

pub returns : goal.returns
returns c = fields_behind_are_unwritten
