-- The pieces joined are the text.
use Rattle.streams.proofs.PartLemmas.{front-same}
use Rattle.witnesses.proofs.FaultTextLemmas.{count_parts}
use Rattle.witnesses.proofs.fault_lines.put_count.Goals as goal

pub returns-clause-front : goal.returns-clause-front
returns-clause-front g c = front-same c.put_pieces.result _ _ _ _ (count_parts c.args.count c.count_words.result.now c.args.first c.count_words.ensures) c.put_pieces.ensures.front
