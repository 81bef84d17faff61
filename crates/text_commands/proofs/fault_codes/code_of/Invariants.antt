use Rattle.std.proofs.Common.{map}
use Rattle.std.specs.String.{string_bytes}
use Rattle.text_commands.specs.FaultPages.{HasNoCode}
use Rattle.text_commands.proofs.TurnLemmas.{LastPassed}
use Rattle.text_commands.proofs.fault_codes.code_of.Given as goal

-- the last words so far have no code
abbrev pub invariant-loop-turn : goal.invariant-loop-turn
invariant-loop-turn l = LastPassed (map string_bytes l.words) HasNoCode l.turn
