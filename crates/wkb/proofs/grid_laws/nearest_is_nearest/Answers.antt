use Rattle.wkb.proofs.NearestFacts.{is_nearest, no_other}
use Rattle.wkb.proofs.grid_laws.nearest_is_nearest.Goals as goal

pub returns-clause-nearest : goal.returns-clause-nearest
returns-clause-nearest c = is_nearest

pub returns-clause-alone : goal.returns-clause-alone
returns-clause-alone c = no_other
