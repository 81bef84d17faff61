-- The line and its end are the rest of the record's text.
use Rattle.std.proofs.Common.{◌∙◌}
use Rattle.streams.proofs.SinkLemmas.{OnErr-holds}
use Rattle.streams.proofs.WriterLemmas.{holds-ended, holds-ending, holds-open}
use Rattle.streams.proofs.record_writer.RecordWriter.write_end.Goals as goal

pub returns-in_err-push_end-clause-front : goal.returns-in_err-push_end-clause-front
returns-in_err-push_end-clause-front g c = λ fields start held.
    OnErr-holds c.from_residual.result (holds-open c.args.self.now fields start _ held)

pub returns-in_err-put_all-clause-front : goal.returns-in_err-put_all-clause-front
returns-in_err-put_all-clause-front g c = λ fields start held.
    OnErr-holds c.from_residual-in_err-put_all.result
    (holds-ending c.args.self.now fields c.as_slice.result.now start _ (g.S.Sink.taken c.put_all.new.sink)
    (c.as_slice.ensures.value ∙ c.in_ok-push_end.ensures) c.in_err-put_all.ensures.front held)

pub returns-clause-ok : goal.returns-clause-ok
returns-clause-ok g c = λ fields start held.
    holds-ended c.args.self.now fields c.as_slice.result.now start _ (g.S.Sink.taken c.put_all.new.sink)
    (c.as_slice.ensures.value ∙ c.in_ok-push_end.ensures) c.in_ok-put_all.ensures.ok held
