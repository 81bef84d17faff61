-- The rows that are still to come at first are those that the query means, so their records are those of its meaning.
use Rattle.std.proofs.Common.{◌≡◌, ◌∙◌, ◌+◌, ap, arith, subst, ℕ}
use Rattle.std.specs.Io.KnownBytes.{Appends}
use Rattle.executor.specs.Streams.{to_come}
use Rattle.geometry_model.specs.Labels.{labelled_matrix}
use Rattle.matrix_laws.proofs.Matrices.{labels_give_matrix}
use Rattle.streams.specs.Sinks.{AppendsFront}
use Rattle.table_model.specs.Arguments.{denoted}
use Rattle.table_model.specs.RunOutcomes.{kept_count}
use Rattle.table_model.specs.Work.{work}
use Rattle.query_runs.specs.Runs.{bound_text}
use Rattle.query_runs.proofs.PutLemmas.{counts-as, put-begun}
use Rattle.query_runs.proofs.RunLemmas.{meant-text}
use Rattle.query_runs.proofs.runs.put_rows.Goals as goal

pub returns-in_err-put_answer-clause-text : goal.returns-in_err-put_answer-clause-text
returns-in_err-put_answer-clause-text g c = λ matrix m.
    let database = c.args.database.now in
    let bound = c.args.query.now in
    put-begun c.from_residual.result c.in_err-put_answer.field-0.0 (bound_text matrix database bound) _ _ _ _
    c.from_residual.ensures.1
    (subst (λ l. AppendsFront (g.S.Sink.taken c.args.sink.now) (g.S.Sink.taken c.put_answer.new.sink) l)
    (meant-text matrix database bound (to_come matrix c.new-rows.result) (c.new-rows.ensures.meant matrix m)) (c.in_err-put_answer.ensures.text matrix m).front)
    (counts-as (Unit {0}) ℕ c.in_err-put_answer.field-0.0 _ _ (c.in_err-put_answer.ensures.text matrix m).failures)

pub returns-clause-text : goal.returns-clause-text
returns-clause-text g c = λ matrix m.
    let database = c.args.database.now in
    let bound = c.args.query.now in record {
      whole = subst (λ l. Appends (g.S.Sink.taken c.args.sink.now) (g.S.Sink.taken c.put_answer.new.sink) l)
          (meant-text matrix database bound (to_come matrix c.new-rows.result) (c.new-rows.ensures.meant matrix m)) (c.in_ok-put_answer.ensures.text matrix m).whole;
      front = tt;
      failures = (c.in_ok-put_answer.ensures.text matrix m).failures;
    }

pub returns-clause-work : goal.returns-clause-work
returns-clause-work g c = λ matrix m.
    let number = work matrix denoted c.args.database.now.tables c.args.query.now c.args.plan.now in
    let none : 0 + number ≡ number = omega arith in
    c.into_work.ensures ∙ c.in_ok-put_answer.ensures.work matrix m ∙ c.new-rows.ensures.at_end matrix m
    ∙ ap (λ n. kept_count (n + number)) c.new.ensures ∙ ap kept_count none

-- whichever function gives the matrix, the sink's failures are counted alike
pub returns-in_err-put_answer-clause-failures : goal.returns-in_err-put_answer-clause-failures
returns-in_err-put_answer-clause-failures g c = (returns-in_err-put_answer-clause-text g c labelled_matrix labels_give_matrix).failures

pub returns-clause-failures : goal.returns-clause-failures
returns-clause-failures g c = (c.in_ok-put_answer.ensures.text labelled_matrix labels_give_matrix).failures
