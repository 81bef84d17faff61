-- A value that is put replaces the constant; one that isn't leaves the statement; without memory no row comes any more.
use Rattle.std.proofs.Common.{◌∙◌, if◌then◌else◌, ap, inr, refl, subst, sym}
use Rattle.kept_tables.specs.KeptTables.{lent}
use Rattle.library_calls.specs.Refusals.{ok, unknown}
use Rattle.sfq_tables.specs.Connections.{Connected}
use Rattle.statements.proofs.BindingLemmas.{is_put, never_put, not_put}
use Rattle.statements.specs.BoundConstants.{HasBegunWithPlan, StaysAtEnd}
use Rattle.statements.specs.Statements.{IsAtEnd}
use Rattle.table_model.specs.RunOutcomes.{ByEveryMatrix}
use Rattle.table_model.specs.SpatialTables.{SpatialDatabase}
use Rattle.sfq_tables.proofs.connections.Connection.bind_in.Goals as goal

pub returns-in-Ok-Done-clause-bound : goal.returns-in-Ok-Done-clause-bound
returns-in-Ok-Done-clause-bound c = λ _.
    let same = c.database-database.ensures.value ∙ ap (λ (v : Connected). lent v.database) c.self.view_is in
    let given = c.in-Ok-Done.ensures in
    let put = is_put c.args.k c.args.value _ _ _ c.in-Ok-Done.field-0-is given.given_back given.query in
    record {
      statement = c.bind.new.self;
      bound = put.1;
      begun = subst (λ (d : SpatialDatabase). HasBegunWithPlan d c.bind.new.self) same (given.done c.in-Ok-Done.field-0-is);
      there = refl;
    }

pub returns-in-Ok-Done-clause-status : goal.returns-in-Ok-Done-clause-status
returns-in-Ok-Done-clause-status c =
    let given = c.in-Ok-Done.ensures in
    let put = is_put c.args.k c.args.value _ _ _ c.in-Ok-Done.field-0-is given.given_back given.query in
    inr (sym (ap (λ b. if b then ok else unknown) put.0))

pub returns-in-Ok-Refused-clause-left : goal.returns-in-Ok-Refused-clause-left
returns-in-Ok-Refused-clause-left c = λ _.
    c.in-Ok-Refused.ensures.refused (never_put _ _ c.in-Ok-Refused.field-0-is)

pub returns-in-Ok-Refused-clause-status : goal.returns-in-Ok-Refused-clause-status
returns-in-Ok-Refused-clause-status c =
    let given = c.in-Ok-Refused.ensures in
    let put = not_put c.args.k c.args.value _ _ _ _ c.in-Ok-Refused.field-0-is given.given_back given.query in
    inr (sym (ap (λ b. if b then ok else unknown) put.0))

pub returns-clause-ended : goal.returns-clause-ended
returns-clause-ended c = λ _.
    let same = c.database-database.ensures.value ∙ ap (λ (v : Connected). lent v.database) c.self.view_is in
    record {
      before = c.args.statement.now;
      statement = c.bind.new.self;
      had = refl;
      ended = subst (λ (d : SpatialDatabase). ByEveryMatrix (λ matrix. IsAtEnd matrix d c.bind.new.self)) same
          c.in-Err.ensures.ended;
      none = subst (λ (d : SpatialDatabase). StaysAtEnd d c.bind.new.self) same c.in-Err.ensures.none;
      query = c.in-Err.ensures.closed;
      no_work = c.in-Err.ensures.no_work;
      there = refl;
    }
