-- A fault of binding, or that memory ran out; else the statement is over what is lent.
use Rattle.std.proofs.Common.{◌∙◌, Ok, ap, refl, subst, sym}
use Rattle.statements.proofs.PrepareLemmas.{gives_fault, other_fault}
use Rattle.statements.specs.Preparing.{of_query, or_fault, out_of_memory}
use Rattle.statements.specs.Statements.{HasBegun, IsOver}
use Rattle.statements.specs.declared.prepared.Statement.{Statement}
use Rattle.table_model.specs.Binding.{binding}
use Rattle.table_model.specs.GeometryColumns.{geometry_binding}
use Rattle.table_model.specs.Plans.{chosen}
use Rattle.table_model.specs.SpatialTables.{SpatialDatabase, SpatialQuery}
use Rattle.statements.proofs.prepared.Statement.of_query.Goals as goal

pub returns-in_err-bound-clause-bound : goal.returns-in_err-bound-clause-bound
returns-in_err-bound-clause-bound g c =
    let e = c.in_err-bound.field-0.0 in
    let same =
    ap (λ (d : SpatialDatabase). binding geometry_binding d.definitions c.args.query.now) c.database-database.ensures.value in
    gives_fault c.from_residual.result out_of_memory (of_query e) (λ (s : Statement). s.bound)
    (or_fault (binding geometry_binding c.args.kept.now.definitions c.args.query.now)) c.from_residual.ensures.1
    (λ other. ap or_fault (sym same ∙ c.in_err-bound.ensures.answer (other_fault e other)))

pub returns-in_err-statement-clause-bound : goal.returns-in_err-statement-clause-bound
returns-in_err-statement-clause-bound g c =
    gives_fault c.from_residual-in_err-statement.result out_of_memory out_of_memory (λ (s : Statement). s.bound)
    (or_fault (binding geometry_binding c.args.kept.now.definitions c.args.query.now))
    c.from_residual-in_err-statement.ensures.1 (λ other. absurd (other refl))

pub returns-clause-bound : goal.returns-clause-bound
returns-clause-bound g c =
    let same =
    ap (λ (d : SpatialDatabase). binding geometry_binding d.definitions c.args.query.now) c.database-database.ensures.value in
    ap or_fault (sym same ∙ c.in_ok-bound.ensures.answer ∙ ap Ok (sym c.in_ok-statement.ensures.bound))

pub returns-clause-chosen : goal.returns-clause-chosen
returns-clause-chosen g c =
    let statement = c.in_ok-statement.statement in
    ap (λ (q : SpatialQuery). chosen c.args.kept.now.tables q) c.in_ok-statement.ensures.bound
    ∙ ap (λ (d : SpatialDatabase). chosen d.tables c.in_ok-bound.bound) (sym c.database-database.ensures.value)
    ∙ c.in_ok-statement.ensures.chosen

pub returns-clause-over : goal.returns-clause-over
returns-clause-over g c =
    subst (λ (d : SpatialDatabase). IsOver d c.in_ok-statement.statement) c.database-database.ensures.value
    c.in_ok-statement.ensures.over

pub returns-clause-begun : goal.returns-clause-begun
returns-clause-begun g c =
    subst (λ (d : SpatialDatabase). HasBegun d c.in_ok-statement.statement) c.database-database.ensures.value
    c.in_ok-statement.ensures.begun
