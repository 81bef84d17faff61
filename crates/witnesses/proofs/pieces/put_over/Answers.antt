-- The parts joined are the text.
use Rattle.streams.proofs.PartLemmas.{front-same}
use Rattle.witnesses.proofs.TextLemmas.{over_parts}
use Rattle.witnesses.proofs.pieces.put_over.Goals as goal

pub returns-clause-front : goal.returns-clause-front
returns-clause-front g c =
    front-same c.put_parts.result _ _ _ _ (rw (c.as_bytes.ensures.value, c.as_bytes-2.ensures.value) (over_parts c.args.first.now c.args.second.now)) c.put_parts.ensures.front
