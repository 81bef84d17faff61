-- The parts joined are the text.
use Rattle.std.proofs.Common.{codes}
use Rattle.streams.proofs.PartLemmas.{front-same}
use Rattle.record_reasons.proofs.PartLemmas.{eight_parts, put-same}
use Rattle.record_reasons.proofs.note_lines.put_note.Goals as goal

pub returns-clause-ok : goal.returns-clause-ok
returns-clause-ok g c =
    put-same c.put_parts.result _ _ _ _
    (rw (c.as_bytes.ensures.value, c.as_bytes-2.ensures.value, c.as_bytes-3.ensures.value, c.as_bytes-4.ensures.value)
    (eight_parts (codes "sfq: note: ") c.args.table.now (codes " ") c.args.words.now c.args.number.now (codes ": field ") c.args.field.now (codes " holds a line end\n")))
    c.put_parts.ensures.ok

pub returns-clause-front : goal.returns-clause-front
returns-clause-front g c =
    front-same c.put_parts.result _ _ _ _
    (rw (c.as_bytes.ensures.value, c.as_bytes-2.ensures.value, c.as_bytes-3.ensures.value, c.as_bytes-4.ensures.value)
    (eight_parts (codes "sfq: note: ") c.args.table.now (codes " ") c.args.words.now c.args.number.now (codes ": field ") c.args.field.now (codes " holds a line end\n")))
    c.put_parts.ensures.front
