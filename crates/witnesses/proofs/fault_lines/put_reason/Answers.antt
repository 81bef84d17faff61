-- The fault, the place and the line feed, one after another.
use Rattle.std.proofs.Common.{codes}
use Rattle.streams.proofs.PartLemmas.{last-put, last-front}
use Rattle.witnesses.specs.FaultTexts.{fault_front, place_text}
use Rattle.witnesses.proofs.FaultTextLemmas.{reason_parts}
use Rattle.witnesses.proofs.TextLemmas.{first-front, second-front}
use Rattle.witnesses.proofs.fault_lines.put_reason.Goals as goal

pub returns-in_err-put_fault-clause-front : goal.returns-in_err-put_fault-clause-front
returns-in_err-put_fault-clause-front g c =
    first-front c.from_residual.result _ _ (fault_front c.args.fault) (place_text c.args.place.now) (codes "\n") _ (reason_parts c.args.fault c.args.place.now) c.in_err-put_fault.ensures.front

pub returns-in_err-put_place-clause-front : goal.returns-in_err-put_place-clause-front
returns-in_err-put_place-clause-front g c =
    second-front c.from_residual-in_err-put_place.result _ (g.S.Sink.taken c.put_fault.new.sink) _ (fault_front c.args.fault) (place_text c.args.place.now) (codes "\n") _
    (reason_parts c.args.fault c.args.place.now) c.in_ok-put_fault.ensures.ok c.in_err-put_place.ensures.front

pub returns-clause-ok : goal.returns-clause-ok
returns-clause-ok g c =
    last-put c.put_all.result _ (g.S.Sink.taken c.put_fault.new.sink) (g.S.Sink.taken c.put_place.new.sink) _ (fault_front c.args.fault) (place_text c.args.place.now) (codes "\n") _
    (reason_parts c.args.fault c.args.place.now) c.in_ok-put_fault.ensures.ok c.in_ok-put_place.ensures.ok c.put_all.ensures.ok

pub returns-clause-front : goal.returns-clause-front
returns-clause-front g c =
    last-front c.put_all.result _ (g.S.Sink.taken c.put_fault.new.sink) (g.S.Sink.taken c.put_place.new.sink) _ (fault_front c.args.fault) (place_text c.args.place.now) (codes "\n") _
    (reason_parts c.args.fault c.args.place.now) c.in_ok-put_fault.ensures.ok c.in_ok-put_place.ensures.ok c.put_all.ensures.front
