-- The statement is bound, planned and at its beginning, and is kept.
use Rattle.std.proofs.Common.{◌≡◌, Ok, Some, subst}
use Rattle.kept_tables.specs.KeptTables.{lent}
use Rattle.sfq_tables.specs.Connections.{Connected}
use Rattle.statements.specs.Preparing.{bound_of}
use Rattle.statements.specs.Statements.{HasBegun}
use Rattle.statements.specs.declared.prepared.Statement.{Statement}
use Rattle.table_model.specs.Plans.{chosen}
use Rattle.sfq_tables.proofs.preparing.prepare.Goals as goal

pub returns-in-Some-clause-prepared : goal.returns-in-Some-clause-prepared
returns-in-Some-clause-prepared c = λ _.
    let s : Statement = c.in-Ok-prepare.statement in
    let given = c.in-Ok-prepare.ensures in
    record {
      statement = s;
      bound = subst (λ (v : Connected). bound_of v.database c.args.text.now ≡ Ok s.bound) c.connection.view_is
          (subst (λ text. bound_of c.connection.inside.database text ≡ Ok s.bound) c.in-Ok.ensures.cases.0 given.bound);
      plan = subst (λ (v : Connected). chosen v.database.tables s.bound ≡ Some s.plan) c.connection.view_is given.chosen;
      begun = subst (λ (v : Connected). HasBegun (lent v.database) s) c.connection.view_is given.begun;
      first = c.in-Some.ensures.first;
      free = c.in-Some.ensures.free;
      there = c.in-Some.ensures.there;
      statements = c.in-Some.ensures.kept;
      database = c.in-Some.ensures.database;
    }
