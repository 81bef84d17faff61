-- The slot has no statement any more.
use Rattle.std.proofs.Common.{subst, sym}
use Rattle.std.specs.Prelude.{IfSome}
use Rattle.kept_tables.specs.KeptTables.{lent}
use Rattle.sfq_tables.proofs.SlotLemmas.{over_set}
use Rattle.statements.specs.Statements.{IsOver}
use Rattle.sfq_tables.proofs.connections.Connection.take_out.Goals as goal

pub invariant_of-self : goal.invariant_of-self
invariant_of-self c =
    over_set (lent c.self.inside.database) c.self.inside.statements.items c.args.number c.take.new.self c.self.invariant
    (subst (λ o. IfSome o (IsOver (lent c.self.inside.database))) (sym c.take.ensures.after) tt)
