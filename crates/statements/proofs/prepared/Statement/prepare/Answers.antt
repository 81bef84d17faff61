-- The first fault: of reading the text, then a table that isn't loaded, then of binding.
use Rattle.std.proofs.Common.{◌∙◌, sym}
use Rattle.statements.proofs.PrepareLemmas.{gives_fault, gives_same, other_fault, read_and_loaded, unloaded, unread}
use Rattle.statements.specs.Preparing.{bound_of, of_query, out_of_memory}
use Rattle.statements.specs.declared.prepared.Statement.{Statement}
use Rattle.statements.proofs.prepared.Statement.prepare.Goals as goal

pub returns-in_err-query-clause-bound : goal.returns-in_err-query-clause-bound
returns-in_err-query-clause-bound g c =
    let e = c.in_err-query.field-0.0 in
    gives_fault c.from_residual.result out_of_memory (of_query e) (λ (s : Statement). s.bound)
    (bound_of c.args.kept.now c.args.text.now) c.from_residual.ensures.1
    (λ other. unread c.args.kept.now c.args.text.now e (c.in_err-query.ensures.exact (other_fault e other)))

pub returns-in-Some-clause-bound : goal.returns-in-Some-clause-bound
returns-in-Some-clause-bound g c = λ other.
    unloaded c.args.kept.now c.args.text.now c.in_ok-query.query c.in-Some.place c.in_ok-query.ensures.exact
    (sym c.unloaded_table.ensures ∙ c.in-Some.is)

pub returns-clause-bound : goal.returns-clause-bound
returns-clause-bound g c =
    gives_same c.of_query.result out_of_memory (λ (s : Statement). s.bound) _ (bound_of c.args.kept.now c.args.text.now)
    (read_and_loaded c.args.kept.now c.args.text.now c.in_ok-query.query c.in_ok-query.ensures.exact
    (sym c.unloaded_table.ensures ∙ c.in-None.is)) c.of_query.ensures.bound
