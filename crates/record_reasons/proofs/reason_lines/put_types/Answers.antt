-- The parts joined are the text.
use Rattle.std.proofs.Common.{codes}
use Rattle.record_reasons.proofs.PartLemmas.{put-same, seven_parts}
use Rattle.record_reasons.proofs.reason_lines.put_types.Goals as goal

pub returns-clause-ok : goal.returns-clause-ok
returns-clause-ok g c =
    put-same c.put_parts.result _ _ _ _
    (rw (c.as_bytes.ensures.value, c.as_bytes-2.ensures.value, c.as_bytes-3.ensures.value)
    (seven_parts (codes "sfq: column ") c.args.column.now (codes " has a ") c.args.found.now (codes ", not a ") c.args.wanted.now (codes "\n")))
    c.put_parts.ensures.ok
