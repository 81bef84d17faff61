use Rattle.geometry_laws.proofs.FirstPlace.{first_fault_is_first}
use Rattle.geometry_laws.proofs.faults.first_fault_is_first.Goals as goal

pub returns : goal.returns
returns c = first_fault_is_first
