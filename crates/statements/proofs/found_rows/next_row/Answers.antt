-- The rows go on as those of the same tables, query and conditions.
use Rattle.std.proofs.Common.{subst}
use Rattle.executor.specs.PausedRows.{IsOf}
use Rattle.executor.specs.Streams.{Stream}
use Rattle.statements.proofs.WithinLemmas.{is_of_same, stays}
use Rattle.statements.proofs.found_rows.next_row.Goals as goal

pub returns-clause-of : goal.returns-clause-of
returns-clause-of g c =
    subst (λ (s : Stream). IsOf s.tables s.query s.conditions c.pause.result) c.resume-rows.ensures.resumed
    (is_of_same c.resume-rows.result c.next_within-step.new.self c.pause.result
    (stays c.args.most c.resume-rows.result c.next_within-step.result c.next_within-step.new.self c.next_within-step.ensures)
    c.pause.ensures.of)
