use Rattle.geometry_laws.proofs.FaultFacts.{fault_is_decided}
use Rattle.geometry_laws.proofs.faults.fault_is_decided.Goals as goal

pub returns : goal.returns
returns c = fault_is_decided
