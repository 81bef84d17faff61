-- The statement is taken out of its slot, and what binding leaves is put back.
use Rattle.std.proofs.Common.{◌≡◌, ◌⊎◌, ap, inr, subst, sym}
use Rattle.std.specs.Prelude.{IfSome}
use Rattle.library_calls.specs.Refusals.{out_of_memory}
use Rattle.sfq_tables.specs.OpenConstants.{HasBound, HasNoMore, status_of_value}
use Rattle.sfq_tables.proofs.SlotLemmas.{none_taken, put_back, put_for, same_back, same_slot}
use Rattle.sfq_tables.proofs.connections.Connection.bind.Goals as goal

pub returns-in-Some-clause-bound : goal.returns-in-Some-clause-bound
returns-in-Some-clause-bound c = λ e.
    put_for (λ database before after. IfSome before
    (λ statement. HasBound database c.args.k c.args.value statement after))
    c.args.self.now c.take_out.new.self c.put_in.new.self c.args.number c.in-Some.statement c.bind_in-status.new.statement
    c.in-Some.ensures.taken c.in-Some.ensures.left c.put_in.ensures (c.bind_in-status.ensures.bound e)

pub returns-in-Some-clause-left : goal.returns-in-Some-clause-left
returns-in-Some-clause-left c = λ e.
    same_back c.args.self.now c.take_out.new.self c.put_in.new.self c.args.number c.in-Some.statement
    c.bind_in-status.new.statement c.in-Some.ensures.taken c.in-Some.ensures.left c.put_in.ensures
    (c.bind_in-status.ensures.left e)

pub returns-in-Some-clause-ended : goal.returns-in-Some-clause-ended
returns-in-Some-clause-ended c = λ e.
    put_for HasNoMore
    c.args.self.now c.take_out.new.self c.put_in.new.self c.args.number c.in-Some.statement c.bind_in-status.new.statement
    c.in-Some.ensures.taken c.in-Some.ensures.left c.put_in.ensures (c.bind_in-status.ensures.ended e)

pub returns-in-Some-clause-status : goal.returns-in-Some-clause-status
returns-in-Some-clause-status c =
    subst (λ before. (c.bind_in-status.result ≡ out_of_memory)
    ⊎ (c.bind_in-status.result ≡ status_of_value c.args.k c.args.value before)) c.in-Some.ensures.taken
    c.bind_in-status.ensures.status

pub returns-in-Some-clause-others : goal.returns-in-Some-clause-others
returns-in-Some-clause-others c =
    (put_back c.args.self.now c.take_out.new.self c.put_in.new.self c.args.number c.in-Some.statement
    c.bind_in-status.new.statement (sym c.in-Some.ensures.taken) c.in-Some.ensures.left c.put_in.ensures).1

pub returns-in-None-clause-left : goal.returns-in-None-clause-left
returns-in-None-clause-left c = λ _.
    none_taken c.args.self.now c.take_out.new.self c.args.number c.in-None.ensures.taken c.in-None.ensures.left

pub returns-in-None-clause-status : goal.returns-in-None-clause-status
returns-in-None-clause-status c = inr (ap (status_of_value c.args.k c.args.value) c.in-None.ensures.taken)

pub returns-in-None-clause-others : goal.returns-in-None-clause-others
returns-in-None-clause-others c =
    same_slot c.args.self.now c.take_out.new.self c.args.number
    (none_taken c.args.self.now c.take_out.new.self c.args.number c.in-None.ensures.taken c.in-None.ensures.left)
