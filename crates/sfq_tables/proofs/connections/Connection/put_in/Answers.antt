-- The statement that is put in is over the database.
use Rattle.std.proofs.Common.{Some, subst, sym}
use Rattle.kept_tables.specs.KeptTables.{lent}
use Rattle.sfq_tables.specs.Connections.{Connected}
use Rattle.sfq_tables.proofs.SlotLemmas.{over_set}
use Rattle.statements.specs.Statements.{IsOver}
use Rattle.sfq_tables.proofs.connections.Connection.put_in.Goals as goal

pub invariant_of-self : goal.invariant_of-self
invariant_of-self c =
    over_set (lent c.self.inside.database) c.self.inside.statements.items c.args.number (Some c.args.statement)
    c.self.invariant
    (subst (λ (v : Connected). IsOver (lent v.database) c.args.statement) (sym c.self.view_is) c.requires)

pub invariant_of-self-then-number-len-2 : goal.invariant_of-self-then-number-len-2
invariant_of-self-then-number-len-2 c =
    over_set (lent c.self.inside.database) c.self.inside.statements.items c.args.number (Some c.args.statement)
    c.self.invariant
    (subst (λ (v : Connected). IsOver (lent v.database) c.args.statement) (sym c.self.view_is) c.requires)
