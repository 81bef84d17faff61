-- The parts joined are the text.
use Rattle.streams.proofs.PartLemmas.{front-same}
use Rattle.witnesses.proofs.TextLemmas.{word_parts}
use Rattle.witnesses.proofs.witness_lines.put_locations.Goals as goal

pub returns-clause-front : goal.returns-clause-front
returns-clause-front g c = front-same c.put_parts.result _ _ _ _ (word_parts c.args.first.now c.args.second.now) c.put_parts.ensures.front
