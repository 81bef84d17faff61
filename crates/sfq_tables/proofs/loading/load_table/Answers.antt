-- No statement is open, so each open one is over the database.
use Rattle.std.proofs.Common.{◌≡◌, ◌∙◌, subst, sym, true}
use Rattle.kept_tables.specs.KeptTables.{lent}
use Rattle.sfq_tables.specs.Connections.{Connected, is_idle}
use Rattle.sfq_tables.proofs.SlotLemmas.{over_idle}
use Rattle.sfq_tables.proofs.loading.load_table.Goals as goal

pub invariant_of-connection : goal.invariant_of-connection
invariant_of-connection c =
    let idle : is_idle c.args.connection.now ≡ true = sym c.is_idle.ensures ∙ c.if-not-is_idle.false in
    over_idle (lent c.load_idle.new.database) c.connection.inside.statements.items
    (subst (λ (v : Connected). is_idle v ≡ true) (sym c.connection.view_is) idle)
