-- The count, or the header and then the rows' records; a front of the header is a front of the answer.
use Rattle.std.proofs.Common.{ap, subst, ◌≡◌, ◌∙◌, true, false, rules}
use Rattle.streams.specs.Sinks.{AppendsFront}
use Rattle.std.specs.Io.KnownBytes.{Appends}
use Rattle.executor.specs.Streams.{to_come}
use Rattle.table_model.specs.AnswerTexts.{header}
use Rattle.table_model.specs.GeometryColumns.{geometry_writing}
use Rattle.query_runs.specs.Runs.{count_text}
use Rattle.query_runs.specs.RecordTexts.{record_text}
use Rattle.query_runs.proofs.PutLemmas.{first-begun, put-none, put-same, put-then}
use Rattle.query_runs.proofs.RunLemmas.{counted-text, listed-text}
use Rattle.query_runs.proofs.runs.put_answer.Goals as goal

pub returns-in_err-count-clause-text : goal.returns-in_err-count-clause-text
returns-in_err-count-clause-text g c = λ matrix m.
    put-none c.from_residual.result _ (g.S.Sink.taken c.args.sink.now) (g.S.Sink.failures c.args.sink.now) c.from_residual.ensures.1

pub returns-then-query-clause-text : goal.returns-then-query-clause-text
returns-then-query-clause-text g c = λ matrix m.
    let counts : c.args.query.now.counts ≡ true = search rules in
    put-same c.put_count.result _ _ _ _ _ _
    (ap (count_text c.args.query.now.limit) (c.in_ok-count.ensures.count matrix m)
    ∙ counted-text c.args.database.now c.args.query.now (to_come matrix c.args.rows.now) counts) c.put_count.ensures

pub returns-in_err-header-clause-text : goal.returns-in_err-header-clause-text
returns-in_err-header-clause-text g c = λ matrix m.
    put-none c.from_residual-in_err-header.result _ (g.S.Sink.taken c.args.sink.now) (g.S.Sink.failures c.args.sink.now) c.from_residual-in_err-header.ensures.1

pub returns-in_err-put-clause-text : goal.returns-in_err-put-clause-text
returns-in_err-put-clause-text g c = λ matrix m.
    let lists : c.args.query.now.counts ≡ false = search rules in
    let written = ap record_text (c.in_ok-header.ensures ∙ ap (λ ds. header geometry_writing ds c.args.query.now) c.definitions.ensures.value) in
    put-same c.from_residual-in_err-put.result _ _ _ _ _ _ (listed-text c.args.database.now c.args.query.now (to_come matrix c.args.rows.now) lists)
    (first-begun c.from_residual-in_err-put.result c.in_err-put.field-0.0 (record_text (header geometry_writing c.args.database.now.definitions c.args.query.now)) _ _ _ _ _
    c.from_residual-in_err-put.ensures.1
    (subst (λ l. AppendsFront (g.S.Sink.taken c.args.sink.now) (g.S.Sink.taken c.put.new.sink) l) written c.in_err-put.ensures.front) c.in_err-put.ensures.failures)

pub returns-clause-text : goal.returns-clause-text
returns-clause-text g c = λ matrix m.
    let lists : c.args.query.now.counts ≡ false = search rules in
    let written = ap record_text (c.in_ok-header.ensures ∙ ap (λ ds. header geometry_writing ds c.args.query.now) c.definitions.ensures.value) in
    let head = record_text (header geometry_writing c.args.database.now.definitions c.args.query.now) in
    put-same c.put_records.result _ _ _ _ _ _ (listed-text c.args.database.now c.args.query.now (to_come matrix c.args.rows.now) lists)
    (put-then c.put_records.result head _ (g.S.Sink.taken c.args.sink.now) (g.S.Sink.taken c.put.new.sink) _ (g.S.Sink.failures c.args.sink.now) (g.S.Sink.failures c.put.new.sink) _
    (subst (λ l. Appends (g.S.Sink.taken c.args.sink.now) (g.S.Sink.taken c.put.new.sink) l) written c.in_ok-put.ensures.ok) c.in_ok-put.ensures.failures (c.put_records.ensures.text matrix m))
