-- A constant that is put leaves the query bound; a value that no constant takes leaves the statement.
use Rattle.std.proofs.Common.{◌∙◌, subst, sym}
use Rattle.statements.proofs.BindingLemmas.{not_put}
use Rattle.statements.specs.Statements.{IsOver}
use Rattle.statements.specs.declared.prepared.Statement.{Statement}
use Rattle.table_model.specs.BoundQueries.{IsBound, geometry_fits}
use Rattle.table_model.specs.SpatialTables.{SpatialQuery}
use Rattle.statements.proofs.prepared.Statement.bind.Goals as goal

pub begin_planned-requires-clause-bound : goal.begin_planned-requires-clause-bound
begin_planned-requires-clause-bound g c =
    let definitions = c.args.database.now.definitions in
    c.in-Ok-Done.ensures.stays_bound definitions
    (subst (λ (q : SpatialQuery). IsBound geometry_fits definitions q) (sym c.in-Ok.ensures.kept) c.requires.bound)

pub returns-in-Ok-Refused-clause-over : goal.returns-in-Ok-Refused-clause-over
returns-in-Ok-Refused-clause-over g c =
    let old : Statement = c.args.self.now in
    let given = c.in-Ok-Refused.ensures in
    let same = not_put c.args.k c.args.value _ _ _ _ c.in-Ok-Refused.field-0-is given.given_back given.query in
    subst (λ (q : SpatialQuery). IsOver c.args.database.now (record old { bound = q }))
    (sym (same.1 ∙ c.in-Ok.ensures.kept)) c.requires
