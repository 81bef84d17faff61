use Rattle.geometry_laws.proofs.FirstFaultFacts.{first_fault_applies}
use Rattle.geometry_laws.proofs.faults.first_fault_applies.Goals as goal

pub returns : goal.returns
returns c = first_fault_applies
