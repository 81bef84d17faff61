-- The texts are the words.
use Rattle.std.proofs.Common.{sym}
use Rattle.command_line.proofs.reading.read_fault.Goals as goal

pub returns-clause-some : goal.returns-clause-some
returns-clause-some c = sym c.in_ok-words.ensures
