use Rattle.table_laws.proofs.MarkFacts.{owner_conjunct_keeps}
use Rattle.table_laws.proofs.mark_laws.owner_conjunct_keeps.Goals as goal

pub returns : goal.returns
returns c = owner_conjunct_keeps
