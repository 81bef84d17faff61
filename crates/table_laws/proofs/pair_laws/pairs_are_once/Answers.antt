use Rattle.table_laws.proofs.OwnerFacts.{pairs_are_once}
use Rattle.table_laws.proofs.pair_laws.pairs_are_once.Goals as goal

pub returns : goal.returns
returns c = pairs_are_once
