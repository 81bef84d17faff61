-- What is put is what the word before SELECT asks for.
use Rattle.std.proofs.Common.{◌≡◌, IfOk, subst, sym}
use Rattle.query_runs.specs.Puts.{PutsText}
use Rattle.query_runs.specs.Runs.{planned_text, planned_work}
use Rattle.query_runs.proofs.runs.put_planned.Goals as goal

pub returns-in-No-clause-text : goal.returns-in-No-clause-text
returns-in-No-clause-text g c = λ matrix gives.
    subst (λ e. PutsText c.put_rows.result (planned_text e matrix c.args.database.now c.args.query.now c.args.plan.now)
    (g.S.Sink.taken c.args.sink.now) (g.S.Sink.taken c.put_rows.new.sink) (g.S.Sink.failures c.args.sink.now) (g.S.Sink.failures c.put_rows.new.sink))
    (sym c.in-No.is) (c.put_rows.ensures.text matrix gives)

pub returns-in-Plan-clause-text : goal.returns-in-Plan-clause-text
returns-in-Plan-clause-text g c = λ matrix gives.
    subst (λ e. PutsText c.put_plan.result (planned_text e matrix c.args.database.now c.args.query.now c.args.plan.now)
    (g.S.Sink.taken c.args.sink.now) (g.S.Sink.taken c.put_plan.new.sink) (g.S.Sink.failures c.args.sink.now) (g.S.Sink.failures c.put_plan.new.sink))
    (sym c.in-Plan.is) c.put_plan.ensures.text

pub returns-in-Analyze-clause-text : goal.returns-in-Analyze-clause-text
returns-in-Analyze-clause-text g c = λ matrix gives.
    subst (λ e. PutsText c.put_analysis.result (planned_text e matrix c.args.database.now c.args.query.now c.args.plan.now)
    (g.S.Sink.taken c.args.sink.now) (g.S.Sink.taken c.put_analysis.new.sink) (g.S.Sink.failures c.args.sink.now) (g.S.Sink.failures c.put_analysis.new.sink))
    (sym c.in-Analyze.is) (c.put_analysis.ensures.text matrix gives)

pub returns-in-Analyze-clause-work : goal.returns-in-Analyze-clause-work
returns-in-Analyze-clause-work g c = λ matrix gives.
    subst (λ e. IfOk c.put_analysis.result (λ n. n ≡ planned_work e matrix c.args.database.now.tables c.args.query.now c.args.plan.now))
    (sym c.in-Analyze.is) (c.put_analysis.ensures.work matrix gives)
