-- The parts joined are the text.
use Rattle.std.proofs.Common.{codes}
use Rattle.streams.proofs.PartLemmas.{front-same}
use Rattle.record_reasons.proofs.PartLemmas.{put-same, six_parts}
use Rattle.record_reasons.proofs.reason_lines.put_code.Goals as goal

pub returns-clause-ok : goal.returns-clause-ok
returns-clause-ok g c =
    put-same c.put_parts.result _ _ _ _
    (rw (c.as_bytes.ensures.value, c.as_bytes-2.ensures.value, c.as_bytes-3.ensures.value)
    (six_parts (codes "sfq: column ") c.args.column.now (codes ": ") c.args.code.now c.args.digits.now (codes "\n")))
    c.put_parts.ensures.ok

pub returns-clause-front : goal.returns-clause-front
returns-clause-front g c =
    front-same c.put_parts.result _ _ _ _
    (rw (c.as_bytes.ensures.value, c.as_bytes-2.ensures.value, c.as_bytes-3.ensures.value)
    (six_parts (codes "sfq: column ") c.args.column.now (codes ": ") c.args.code.now c.args.digits.now (codes "\n")))
    c.put_parts.ensures.front
