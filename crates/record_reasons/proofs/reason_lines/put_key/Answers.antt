-- The parts joined are the text.
use Rattle.std.proofs.Common.{codes}
use Rattle.streams.proofs.PartLemmas.{front-same}
use Rattle.record_reasons.proofs.PartLemmas.{five_parts, put-same}
use Rattle.record_reasons.proofs.reason_lines.put_key.Goals as goal

pub returns-clause-ok : goal.returns-clause-ok
returns-clause-ok g c =
    put-same c.put_parts.result _ _ _ _
    (rw (c.as_bytes.ensures.value, c.as_bytes-2.ensures.value) (five_parts (codes "sfq: record ") c.args.number.now (codes " has the key ") c.args.key.now (codes "\n")))
    c.put_parts.ensures.ok

pub returns-clause-front : goal.returns-clause-front
returns-clause-front g c =
    front-same c.put_parts.result _ _ _ _
    (rw (c.as_bytes.ensures.value, c.as_bytes-2.ensures.value) (five_parts (codes "sfq: record ") c.args.number.now (codes " has the key ") c.args.key.now (codes "\n")))
    c.put_parts.ensures.front
