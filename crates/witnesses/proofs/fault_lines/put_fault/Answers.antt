-- The text of each fault begins with its code.
use Rattle.std.proofs.Common.{ap, sym}
use Rattle.streams.proofs.PartLemmas.{front-same}
use Rattle.witnesses.specs.FaultTexts.{fault_front}
use Rattle.witnesses.proofs.fault_lines.put_fault.Goals as goal

pub returns-in-TooFewPoints-clause-front : goal.returns-in-TooFewPoints-clause-front
returns-in-TooFewPoints-clause-front g c = front-same c.put_numbered.result _ _ _ _ (ap fault_front (sym c.in-TooFewPoints.is)) c.put_numbered.ensures.front

pub returns-in-RingNotClosed-clause-front : goal.returns-in-RingNotClosed-clause-front
returns-in-RingNotClosed-clause-front g c = front-same c.put_numbered-in-RingNotClosed.result _ _ _ _ (ap fault_front (sym c.in-RingNotClosed.is)) c.put_numbered-in-RingNotClosed.ensures.front

pub returns-in-RingNotSimple-clause-front : goal.returns-in-RingNotSimple-clause-front
returns-in-RingNotSimple-clause-front g c = front-same c.put_numbered-in-RingNotSimple.result _ _ _ _ (ap fault_front (sym c.in-RingNotSimple.is)) c.put_numbered-in-RingNotSimple.ensures.front

pub returns-in-RingsMeet-clause-front : goal.returns-in-RingsMeet-clause-front
returns-in-RingsMeet-clause-front g c = front-same c.put_paired.result _ _ _ _ (ap fault_front (sym c.in-RingsMeet.is)) c.put_paired.ensures.front

pub returns-in-HoleOutside-clause-front : goal.returns-in-HoleOutside-clause-front
returns-in-HoleOutside-clause-front g c = front-same c.put_numbered-in-HoleOutside.result _ _ _ _ (ap fault_front (sym c.in-HoleOutside.is)) c.put_numbered-in-HoleOutside.ensures.front

pub returns-in-HolesNested-clause-front : goal.returns-in-HolesNested-clause-front
returns-in-HolesNested-clause-front g c = front-same c.put_paired-in-HolesNested.result _ _ _ _ (ap fault_front (sym c.in-HolesNested.is)) c.put_paired-in-HolesNested.ensures.front

pub returns-in-ElementsMeet-clause-front : goal.returns-in-ElementsMeet-clause-front
returns-in-ElementsMeet-clause-front g c = front-same c.put_paired-in-ElementsMeet.result _ _ _ _ (ap fault_front (sym c.in-ElementsMeet.is)) c.put_paired-in-ElementsMeet.ensures.front

pub returns-in-ElementInside-clause-front : goal.returns-in-ElementInside-clause-front
returns-in-ElementInside-clause-front g c = front-same c.put_paired-in-ElementInside.result _ _ _ _ (ap fault_front (sym c.in-ElementInside.is)) c.put_paired-in-ElementInside.ensures.front
