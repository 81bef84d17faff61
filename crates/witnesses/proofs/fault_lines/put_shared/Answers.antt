-- The two edges, and what they share after them.
use Rattle.std.proofs.Common.{ap, ◌++◌}
use Rattle.streams.proofs.SinkLemmas.{then-put}
use Rattle.witnesses.specs.FaultTexts.{meet_text}
use Rattle.witnesses.proofs.FaultTextLemmas.{begin-front, edge_parts, then-front}
use Rattle.witnesses.proofs.fault_lines.put_shared.Goals as goal

pub returns-in_err-put_pieces-clause-front : goal.returns-in_err-put_pieces-clause-front
returns-in_err-put_pieces-clause-front g c =
    let shared = c.args.shared.now in
    begin-front c.from_residual.result _ _ _ (meet_text shared.meet) _
    (ap (λ l. l ++ meet_text shared.meet) (edge_parts shared.first shared.second _ _ _ _ c.start.ensures c.end.ensures.value c.start-2.ensures c.end-2.ensures.value)) c.in_err-put_pieces.ensures.front

pub returns-clause-ok : goal.returns-clause-ok
returns-clause-ok g c =
    let shared = c.args.shared.now in
    then-put c.put_meet.result _ (g.S.Sink.taken c.put_pieces.new.sink) _ _ (meet_text shared.meet) _
    (ap (λ l. l ++ meet_text shared.meet) (edge_parts shared.first shared.second _ _ _ _ c.start.ensures c.end.ensures.value c.start-2.ensures c.end-2.ensures.value)) c.in_ok-put_pieces.ensures.ok c.put_meet.ensures.ok

pub returns-clause-front : goal.returns-clause-front
returns-clause-front g c =
    let shared = c.args.shared.now in
    then-front c.put_meet.result _ (g.S.Sink.taken c.put_pieces.new.sink) _ _ (meet_text shared.meet) _
    (ap (λ l. l ++ meet_text shared.meet) (edge_parts shared.first shared.second _ _ _ _ c.start.ensures c.end.ensures.value c.start-2.ensures c.end-2.ensures.value)) c.in_ok-put_pieces.ensures.ok c.put_meet.ensures.front
