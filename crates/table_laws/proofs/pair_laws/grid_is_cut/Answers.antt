use Rattle.table_laws.proofs.OwnerFacts.{grid_is_cut}
use Rattle.table_laws.proofs.pair_laws.grid_is_cut.Goals as goal

pub returns : goal.returns
returns c = grid_is_cut
