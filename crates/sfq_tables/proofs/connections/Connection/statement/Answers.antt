-- What is open is over the database, by the invariant.
use Rattle.std.proofs.Common.{subst}
use Rattle.std.specs.Prelude.{IfSome}
use Rattle.kept_tables.specs.KeptTables.{lent}
use Rattle.sfq_tables.specs.Connections.{Connected}
use Rattle.sfq_tables.specs.OpenStatements.{statement_at}
use Rattle.sfq_tables.proofs.SlotLemmas.{over_open}
use Rattle.statements.specs.Statements.{IsOver}
use Rattle.sfq_tables.proofs.connections.Connection.statement.Goals as goal

pub returns-in-Some-clause-over : goal.returns-in-Some-clause-over
returns-in-Some-clause-over c =
    subst (λ (v : Connected). IfSome (statement_at v c.args.number) (IsOver (lent v.database))) c.self.view_is
    (over_open (lent c.self.inside.database) c.self.inside.statements.items c.args.number c.self.invariant)
