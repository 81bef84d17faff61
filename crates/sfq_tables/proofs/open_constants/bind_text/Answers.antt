-- The value is the text of these bytes.
use Rattle.std.proofs.Common.{◌≡◌, ◌⊎◌, ◌∙◌, inr, subst}
use Rattle.std.specs.Prelude.{IfSome}
use Rattle.kept_tables.specs.KeptTables.{lent}
use Rattle.library_calls.specs.Refusals.{out_of_memory}
use Rattle.sfq_tables.specs.Connections.{Connected}
use Rattle.sfq_tables.specs.OpenConstants.{HasBound, status_of_value}
use Rattle.sfq_tables.specs.OpenStatements.{statement_at}
use Rattle.table_model.specs.declared.values.Value.TheVariants as values
use Rattle.sfq_tables.proofs.open_constants.bind_text.Goals as goal

pub returns-in-Ok-copy_of-clause-bound : goal.returns-in-Ok-copy_of-clause-bound
returns-in-Ok-copy_of-clause-bound c = λ e.
    let old : Connected = c.args.connection.now in
    subst (λ text. IfSome (statement_at old c.args.number)
    (λ before. HasBound (lent old.database) c.args.k (values.Text text) before (statement_at c.bind.new.self c.args.number)))
    (c.in-Ok-copy_of.ensures ∙ c.in-Ok.ensures.cases.0) (c.bind.ensures.bound e)

pub returns-in-Ok-copy_of-clause-ended : goal.returns-in-Ok-copy_of-clause-ended
returns-in-Ok-copy_of-clause-ended c = λ e. inr (c.bind.ensures.ended e)

pub returns-in-Ok-copy_of-clause-status : goal.returns-in-Ok-copy_of-clause-status
returns-in-Ok-copy_of-clause-status c =
    let old : Connected = c.args.connection.now in
    inr (
      c.in-Ok.ensures.cases.1,
      subst (λ text. (c.bind.result ≡ out_of_memory)
          ⊎ (c.bind.result ≡ status_of_value c.args.k (values.Text text) (statement_at old c.args.number)))
          (c.in-Ok-copy_of.ensures ∙ c.in-Ok.ensures.cases.0) c.bind.ensures.status,
    )
