use Rattle.std.proofs.Common.{rules}
use Rattle.validity.proofs.check_fault.CheckFault.validity_fault.Goals as goal

pub returns-in-HoleOutside : goal.returns-in-HoleOutside
returns-in-HoleOutside c = search rules
