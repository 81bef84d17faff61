-- The parts joined are the text.
use Rattle.streams.proofs.PartLemmas.{front-same}
use Rattle.wkt.proofs.PrintLemmas.{number_parts}
use Rattle.wkt.proofs.printing.put_numbers.Goals as goal

pub returns-clause-front : goal.returns-clause-front
returns-clause-front g c =
    front-same c.put_parts.result _ _ _ _
    (rw (c.as_bytes.ensures.value, c.as_bytes-2.ensures.value) (number_parts c.args.before.now c.args.x.now c.args.y.now c.args.behind.now))
    c.put_parts.ensures.front
