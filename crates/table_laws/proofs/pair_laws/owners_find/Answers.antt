use Rattle.table_laws.proofs.OwnerFacts.{owners_find}
use Rattle.table_laws.proofs.pair_laws.owners_find.Goals as goal

pub returns : goal.returns
returns c = owners_find
