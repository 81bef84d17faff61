use Rattle.geometry_laws.proofs.TestOrder.{no_earlier_fault_applies}
use Rattle.geometry_laws.proofs.faults.no_earlier_fault_applies.Goals as goal

pub returns : goal.returns
returns c = no_earlier_fault_applies
