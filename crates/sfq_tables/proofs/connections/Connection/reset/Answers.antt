-- The statement of the slot is over the database, and begins anew.
use Rattle.std.proofs.Common.{◌≡◌, ◌<◌, arith, ap, length, subst, sym}
use Rattle.std.specs.Prelude.{IfSome, None}
use Rattle.kept_tables.specs.KeptTables.{lent}
use Rattle.sfq_tables.specs.Connections.{AreOver, Connected}
use Rattle.sfq_tables.specs.contracts.connections.Connection.{the_view}
use Rattle.sfq_tables.specs.OpenStatements.{HasBegunAnew, statement_at, with_slot}
use Rattle.sfq_tables.proofs.SlotLemmas.{at_number, over_lent, over_set, still_none}
use Rattle.statements.specs.Statements.{IsOver}
use Rattle.sfq_tables.proofs.connections.Connection.reset.Goals as goal
use Rattle.sfq_tables.proofs.connections.Connection.reset.Goals.{in-Own-1, in-Lent-1}

pub begin_slot-requires : goal.begin_slot-requires
begin_slot-requires c =
    let there : c.args.number < length c.self.inside.statements.items = omega (arith, c.if-number-len.false, c.len.ensures) in
    over_lent (lent c.self.inside.database) c.database-database.result c.self.inside.statements.items c.args.number
    c.index_mut.result.now c.self.invariant there c.index_mut.ensures.value c.database-database.ensures.value

pub invariant_of-self : goal.invariant_of-self
invariant_of-self c =
    let over = over_set (lent c.self.inside.database) c.self.inside.statements.items c.args.number c.begin_slot.new.slot
    c.self.invariant
    (subst (λ d. IfSome c.begin_slot.new.slot (IsOver d)) c.database-database.ensures.value c.begin_slot.ensures.over) in
    elim c.match-database.branch [
      | in-Own-1 w ↦ subst (λ (v : Connected). AreOver (lent v.database) v.statements) (sym (ap the_view w.self-inside-is)) over
      | in-Lent-1 w ↦ subst (λ (v : Connected). AreOver (lent v.database) v.statements) (sym (ap the_view w.self-inside-is)) over
    ]

pub returns-clause-begun : goal.returns-clause-begun
returns-clause-begun c =
    let there : c.args.number < length c.self.inside.statements.items = omega (arith, c.if-number-len.false, c.len.ensures) in
    let old : Connected = the_view c.self.inside in
    let new : Connected = the_view c.match-database.self-inside in
    let begun = subst
    (λ d. IfSome c.index_mut.result.now (λ before. HasBegunAnew d before c.begin_slot.new.slot))
    c.database-database.ensures.value c.begin_slot.ensures.begun in
    let changed : new ≡ with_slot c.args.number c.begin_slot.new.slot old =
    elim c.match-database.branch [ in-Own-1 w ↦ ap the_view w.self-inside-is | in-Lent-1 w ↦ ap the_view w.self-inside-is ] in
    subst (λ (v : Connected). IfSome (statement_at v c.args.number)
    (λ before. HasBegunAnew (lent v.database) before (statement_at new c.args.number))) c.self.view_is
    (at_number (HasBegunAnew (lent old.database)) old new c.args.number c.index_mut.result.now c.begin_slot.new.slot there
    c.index_mut.ensures.value changed begun)

pub returns-clause-left : goal.returns-clause-left
returns-clause-left c =
    let there : c.args.number < length c.self.inside.statements.items = omega (arith, c.if-number-len.false, c.len.ensures) in
    let old : Connected = the_view c.self.inside in
    let new : Connected = the_view c.match-database.self-inside in
    let changed : new ≡ with_slot c.args.number c.begin_slot.new.slot old =
    elim c.match-database.branch [ in-Own-1 w ↦ ap the_view w.self-inside-is | in-Lent-1 w ↦ ap the_view w.self-inside-is ] in
    subst (λ (v : Connected). statement_at v c.args.number ≡ None → new ≡ v) c.self.view_is
    (still_none old new c.args.number c.index_mut.result.now c.begin_slot.new.slot there c.index_mut.ensures.value changed
    c.begin_slot.ensures.none)
