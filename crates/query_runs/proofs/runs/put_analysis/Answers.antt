-- The number that is put is the work of the plan, whose rows were taken to their end from no work on.
use Rattle.std.proofs.Common.{◌≡◌, ◌+◌, ◌∙◌, ap, subst, arith}
use Rattle.streams.specs.Sinks.{AppendsFront}
use Rattle.table_model.specs.Arguments.{denoted}
use Rattle.table_model.specs.ExplainTexts.{analyze_text}
use Rattle.table_model.specs.RunOutcomes.{kept_count}
use Rattle.table_model.specs.Work.{work}
use Rattle.query_runs.proofs.PutLemmas.{put-begun, put-none}
use Rattle.streams.specs.declared.put_fault.PutFault.TheVariants as put
use Rattle.query_runs.proofs.runs.put_analysis.Goals as goal

pub returns-in_err-count_observed-clause-text : goal.returns-in_err-count_observed-clause-text
returns-in_err-count_observed-clause-text g c = λ matrix m.
    put-none c.from_residual.result _ (g.S.Sink.taken c.args.sink.now) (g.S.Sink.failures c.args.sink.now) c.from_residual.ensures.1

pub returns-in_err-analyze-clause-text : goal.returns-in_err-analyze-clause-text
returns-in_err-analyze-clause-text g c = λ matrix m.
    let query = c.args.query.now in
    let plan = c.args.plan.now in
    let number = work matrix denoted c.args.database.now.tables query plan in
    let none : 0 + number ≡ number = omega arith in
    let counted : c.into_work-work.result ≡ kept_count number =
    c.into_work-work.ensures ∙ c.in_ok-count_observed.ensures.work matrix m ∙ c.new-rows.ensures.at_end matrix m
    ∙ ap (λ n. kept_count (n + number)) c.new.ensures ∙ ap kept_count none in
    put-begun c.from_residual-in_err-analyze.result put.Sink (analyze_text query plan (kept_count number)) _ _ _ _ c.from_residual-in_err-analyze.ensures.1
    (subst (λ n. AppendsFront (g.S.Sink.taken c.args.sink.now) (g.S.Sink.taken c.analyze.new.sink) (analyze_text query plan n)) counted c.in_err-analyze.ensures.front)
    c.in_err-analyze.ensures.failures
