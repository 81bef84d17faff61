-- The text of EXPLAIN, and the line of the work after it.
use Rattle.std.proofs.Common.{◌∷◌, [], codes, decimal}
use Rattle.table_model.specs.ExplainTexts.{line, explain_text}
use Rattle.explain.proofs.PutLemmas.{puts-begun, puts-then}
use Rattle.explain.proofs.plan_text.analyze.Goals as goal

pub returns-in_err-explain : goal.returns-in_err-explain
returns-in_err-explain g c =
    puts-begun c.from_residual.result (explain_text c.args.query.now c.args.plan.now)
    (line (codes "work") (decimal c.args.work.now) ∷ []) c.in_err-explain.ensures c.from_residual.ensures.1

pub returns : goal.returns
returns g c = puts-then c.in_ok-explain.ensures c.put_work.ensures
