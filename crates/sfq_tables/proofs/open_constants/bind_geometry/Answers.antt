-- The value is the geometry that was read, or the text's fault is reported.
use Rattle.std.proofs.Common.{◌≡◌, ◌⊎◌, ◌∙◌, ap, inr, subst, sym}
use Rattle.std.specs.Prelude.{IfOk, IfSome}
use Rattle.kept_tables.specs.KeptTables.{lent}
use Rattle.library_calls.specs.Refusals.{out_of_memory}
use Rattle.sfq_tables.specs.Connections.{Connected}
use Rattle.sfq_tables.specs.OpenConstants.{HasBound, status_of_geometry, status_of_value}
use Rattle.sfq_tables.specs.OpenStatements.{statement_at}
use Rattle.sfq_tables.proofs.ConstantLemmas.{never_refused, unknown_alone}
use Rattle.table_model.specs.declared.values.Value.TheVariants as values
use Rattle.sfq_tables.proofs.open_constants.bind_geometry.Goals as goal

pub returns-in-Ok-clause-bound : goal.returns-in-Ok-clause-bound
returns-in-Ok-clause-bound c = λ e.
    let old : Connected = c.args.connection.now in
    let read = sym c.in-Ok-Ok.field-0-is ∙ c.in-Ok-Ok.ensures in
    subst (λ reading. IfOk reading (λ g. IfSome (statement_at old c.args.number)
    (λ before. HasBound (lent old.database) c.args.k (values.Geometry g) before (statement_at c.bind.new.self c.args.number))))
    read
    (subst (λ g. IfSome (statement_at old c.args.number)
    (λ before. HasBound (lent old.database) c.args.k (values.Geometry g) before (statement_at c.bind.new.self c.args.number)))
    c.in-Ok.ensures (c.bind.ensures.bound e))

pub returns-in-Ok-clause-left : goal.returns-in-Ok-clause-left
returns-in-Ok-clause-left c = λ e.
    c.bind.ensures.left (unknown_alone c.bind.result (never_refused c.bind.result c.args.k _ _ c.bind.ensures.status) e)

pub returns-in-Ok-clause-ended : goal.returns-in-Ok-clause-ended
returns-in-Ok-clause-ended c = λ e. inr (c.bind.ensures.ended e)

pub returns-in-Ok-clause-status : goal.returns-in-Ok-clause-status
returns-in-Ok-clause-status c =
    let old : Connected = c.args.connection.now in
    let read = sym c.in-Ok-Ok.field-0-is ∙ c.in-Ok-Ok.ensures in
    subst (λ reading. (c.bind.result ≡ out_of_memory)
    ⊎ (c.bind.result ≡ status_of_geometry c.args.k reading (statement_at old c.args.number))) read
    (subst (λ g. (c.bind.result ≡ out_of_memory)
    ⊎ (c.bind.result ≡ status_of_value c.args.k (values.Geometry g) (statement_at old c.args.number)))
    c.in-Ok.ensures c.bind.ensures.status)

pub returns-in-Ok-clause-refused : goal.returns-in-Ok-clause-refused
returns-in-Ok-clause-refused c = λ e.
    absurd (never_refused c.bind.result c.args.k _ _ c.bind.ensures.status e)

pub returns-in-Ok-Err-clause-status : goal.returns-in-Ok-Err-clause-status
returns-in-Ok-Err-clause-status c =
    let old : Connected = c.args.connection.now in
    inr (ap (λ reading. status_of_geometry c.args.k reading (statement_at old c.args.number))
    (sym c.in-Ok-Err.field-0-is ∙ c.in-Ok-Err.ensures))

pub returns-in-Ok-Err-clause-refused : goal.returns-in-Ok-Err-clause-refused
returns-in-Ok-Err-clause-refused c = λ _.
    (c.in-Ok-Err.why, sym c.in-Ok-Err.ensures ∙ c.in-Ok-Err.field-0-is, c.of_query.ensures)
