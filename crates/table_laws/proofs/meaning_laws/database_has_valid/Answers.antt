use Rattle.table_laws.proofs.Meaning.{database_has_valid}
use Rattle.table_laws.proofs.meaning_laws.database_has_valid.Goals as goal

pub returns : goal.returns
returns c = database_has_valid
