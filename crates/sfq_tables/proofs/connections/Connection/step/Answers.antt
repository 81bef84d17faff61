-- The statement of the slot is over the database, before its step and after it.
use Rattle.std.proofs.Common.{◌≡◌, ◌<◌, arith, ap, length, subst, sym}
use Rattle.std.specs.Prelude.{IfSome, None}
use Rattle.kept_tables.specs.KeptTables.{lent}
use Rattle.sfq_tables.specs.Connections.{AreOver, Connected}
use Rattle.sfq_tables.specs.contracts.connections.Connection.{the_view}
use Rattle.sfq_tables.proofs.SlotLemmas.{over_lent, over_set, still_none}
use Rattle.sfq_tables.specs.OpenStatements.{statement_at, with_slot}
use Rattle.statements.specs.Statements.{IsOver}
use Rattle.sfq_tables.proofs.connections.Connection.step.Goals as goal
use Rattle.sfq_tables.proofs.connections.Connection.step.Goals.{in-Own-1, in-Lent-1}

pub step_slot-requires : goal.step_slot-requires
step_slot-requires c =
    let there : c.args.number < length c.self.inside.statements.items = omega (arith, c.if-number-len.false, c.len.ensures) in
    over_lent (lent c.self.inside.database) c.database-database.result c.self.inside.statements.items c.args.number
    c.index_mut.result.now c.self.invariant there c.index_mut.ensures.value c.database-database.ensures.value

pub invariant_of-self : goal.invariant_of-self
invariant_of-self c =
    let over = over_set (lent c.self.inside.database) c.self.inside.statements.items c.args.number c.step_slot.new.slot
    c.self.invariant
    (subst (λ d. IfSome c.step_slot.new.slot (IsOver d)) c.database-database.ensures.value c.step_slot.ensures.over) in
    elim c.match-database.branch [
      | in-Own-1 w ↦ subst (λ (v : Connected). AreOver (lent v.database) v.statements) (sym (ap the_view w.self-inside-is)) over
      | in-Lent-1 w ↦ subst (λ (v : Connected). AreOver (lent v.database) v.statements) (sym (ap the_view w.self-inside-is)) over
    ]

pub returns-clause-left : goal.returns-clause-left
returns-clause-left c =
    let there : c.args.number < length c.self.inside.statements.items = omega (arith, c.if-number-len.false, c.len.ensures) in
    let old : Connected = the_view c.self.inside in
    let new : Connected = the_view c.match-database.self-inside in
    let changed : new ≡ with_slot c.args.number c.step_slot.new.slot old =
    elim c.match-database.branch [ in-Own-1 w ↦ ap the_view w.self-inside-is | in-Lent-1 w ↦ ap the_view w.self-inside-is ] in
    subst (λ (v : Connected). statement_at v c.args.number ≡ None → new ≡ v) c.self.view_is
    (still_none old new c.args.number c.index_mut.result.now c.step_slot.new.slot there c.index_mut.ensures.value changed
    (λ none. (c.step_slot.ensures.unknown none).1))
