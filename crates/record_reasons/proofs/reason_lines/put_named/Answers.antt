-- The parts joined are the text.
use Rattle.std.proofs.Common.{codes}
use Rattle.streams.proofs.PartLemmas.{front-same}
use Rattle.witnesses.proofs.TextLemmas.{three_parts}
use Rattle.record_reasons.proofs.PartLemmas.{put-same}
use Rattle.record_reasons.proofs.reason_lines.put_named.Goals as goal

pub returns-clause-ok : goal.returns-clause-ok
returns-clause-ok g c =
    put-same c.put_parts.result _ _ _ _
    (rw (c.as_bytes.ensures.value, c.as_bytes-2.ensures.value) (three_parts (codes "sfq: column ") c.args.column.now c.args.words.now)) c.put_parts.ensures.ok

pub returns-clause-front : goal.returns-clause-front
returns-clause-front g c =
    front-same c.put_parts.result _ _ _ _
    (rw (c.as_bytes.ensures.value, c.as_bytes-2.ensures.value) (three_parts (codes "sfq: column ") c.args.column.now c.args.words.now)) c.put_parts.ensures.front
