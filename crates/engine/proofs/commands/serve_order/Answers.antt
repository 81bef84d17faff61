-- The arms with words: each of them is the text of its string.
use Rattle.std.proofs.Common.{refl}
use Rattle.engine.proofs.commands.serve_order.Goals as goal

pub returns-in-Relate-clause-serves : goal.returns-in-Relate-clause-serves
returns-in-Relate-clause-serves g c =
    rw (c.in-Relate.is, ← c.as_str-first.ensures.value, ← c.as_str-second.ensures.value) c.serve_relate.ensures.serves

pub returns-in-Some-clause-serves : goal.returns-in-Some-clause-serves
returns-in-Some-clause-serves g c =
    rw (c.in-Why.is, c.in-Some.is, ← c.as_str-first-in-Some.ensures.value, ← c.as_str-second-in-Some.ensures.value)
    c.serve_witnesses.ensures.serves

pub returns-in-Fault-clause-serves : goal.returns-in-Fault-clause-serves
returns-in-Fault-clause-serves g c = rw (c.in-Fault.is, ← c.as_slice.ensures.value) (c.serve_fault.ensures.serves, refl)
