use Rattle.std.proofs.Common.{ℕ, ◌<◌, get_or}
use Rattle.text_commands.specs.FaultPages.{IsCode}
use Rattle.text_commands.specs.declared.fault_codes.TheConstants.{CODES}
use Rattle.text_commands.specs.declared.fault_codes.FaultCode.TheVariants as c
use Rattle.text_commands.proofs.fault_codes.fault_code.Given as goal

-- the codes so far are others
abbrev pub invariant-loop-place : goal.invariant-loop-place
invariant-loop-place l = (k : ℕ) → k < l.place → ¬ (IsCode l.word (get_or CODES k c.W1))
