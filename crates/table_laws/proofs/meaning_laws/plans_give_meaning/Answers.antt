use Rattle.table_laws.proofs.Meaning.{plans_give_meaning}
use Rattle.table_laws.proofs.meaning_laws.plans_give_meaning.Goals as goal

pub returns : goal.returns
returns c = plans_give_meaning
