use Rattle.geometry_laws.proofs.FirstFaultFacts.{none_is_found_where_valid}
use Rattle.geometry_laws.proofs.faults.none_is_found_where_valid.Goals as goal

pub returns : goal.returns
returns c = none_is_found_where_valid
