use Rattle.std.proofs.Common.{arith}
use Rattle.streams.proofs.RowLemmas.{candidates_counted}
use Rattle.streams.proofs.rows.RowCountRowObserver.looked.Goals as goal

pub returns : goal.returns
returns c = record {
  together = rw (c.saturating_add-self.ensures, c.first_or-self.ensures)
      (candidates_counted c.args.left c.args.candidates c.args.self.now (omega (arith, c.if-candidates-eq0.false)));
}
