use Rattle.std.proofs.Common.{Bor, List, map, ℕ}
use Rattle.text_commands.specs.FaultPages.{IsNoCode}
use Rattle.text_commands.proofs.TurnLemmas.{LastPassed}
use Rattle.text_commands.proofs.fault_codes.code_in.Given as goal

-- the last parts so far are no codes
abbrev pub invariant-loop-turn : goal.invariant-loop-turn
invariant-loop-turn l = LastPassed (map (λ (part : Bor (List ℕ)). part.now) l.parts.items) IsNoCode l.turn
