use Rattle.std.proofs.Common.{arith}
use Rattle.streams.proofs.RowLemmas.{rows_counted}
use Rattle.streams.proofs.rows.RowCountRowObserver.found.Goals as goal

pub returns : goal.returns
returns c = record { together = rw c.saturating_add-self.ensures (rows_counted c.args.rows c.args.self.now (omega arith)) }
