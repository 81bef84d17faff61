use Rattle.wkb.proofs.PrintedNearest.{read_again, is_number}
use Rattle.wkb.proofs.grid_laws.printed_is_read_again.Goals as goal

pub returns-clause-again : goal.returns-clause-again
returns-clause-again c = read_again

pub returns-clause-number : goal.returns-clause-number
returns-clause-number c = is_number
