-- The statement that is kept is over the database.
use Rattle.std.proofs.Common.{subst, sym}
use Rattle.kept_tables.specs.KeptTables.{lent}
use Rattle.sfq_tables.specs.Connections.{Connected}
use Rattle.sfq_tables.proofs.SlotLemmas.{over_kept}
use Rattle.statements.specs.Statements.{IsOver}
use Rattle.sfq_tables.proofs.connections.Connection.keep.Goals as goal

pub invariant_of-self : goal.invariant_of-self
invariant_of-self c =
    over_kept (lent c.self.inside.database) c.self.inside.statements.items c.keep_in.new.slots.items c.args.statement
    c.keep_in.result c.self.invariant
    (subst (λ (v : Connected). IsOver (lent v.database) c.args.statement) (sym c.self.view_is) c.requires)
    c.keep_in.ensures.kept c.keep_in.ensures.refused
