use Rattle.std.proofs.Common.{inr, refl}
use Rattle.tiles.proofs.plain_records.PlainRecords.read_header.Goals as goal

pub returns-then-not-found-clause-fault : goal.returns-then-not-found-clause-fault
returns-then-not-found-clause-fault g c =
    inr (refl, inr (λ rest gives. rw c.if-not-found.true at (c.in_ok-found.ensures.takes rest gives)))

pub returns-clause-takes : goal.returns-clause-takes
returns-clause-takes g c rest gives = rw c.if-not-found.false at (c.in_ok-found.ensures.takes rest gives)
