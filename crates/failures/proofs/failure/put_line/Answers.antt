-- The parts joined are the line.
use Rattle.streams.proofs.PartLemmas.{front-same}
use Rattle.failures.proofs.TextLemmas.{line_parts}
use Rattle.failures.proofs.failure.put_line.Goals as goal

pub returns-clause-front : goal.returns-clause-front
returns-clause-front g c =
    let words = c.args.words.now in
    front-same c.put_parts.result _ _ _ _
    (rw (c.as_bytes.ensures.value, c.as_bytes-2.ensures.value, c.as_bytes-3.ensures.value, c.as_bytes-4.ensures.value, c.as_bytes-5.ensures.value, c.as_bytes-6.ensures.value, c.as_bytes-7.ensures.value, c.as_bytes-8.ensures.value)
    (line_parts c.args.name.now words.table.now words.words.now c.args.number.now words.fault.words.now c.args.first.now words.fault.between.now c.args.second.now)) c.put_parts.ensures.front
