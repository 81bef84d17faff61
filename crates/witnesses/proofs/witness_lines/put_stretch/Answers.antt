-- The pieces joined are the text.
use Rattle.streams.proofs.PartLemmas.{front-same}
use Rattle.witnesses.proofs.TextLemmas.{stretch_cell}
use Rattle.witnesses.proofs.witness_lines.put_stretch.Goals as goal

pub returns-clause-front : goal.returns-clause-front
returns-clause-front g c = front-same c.put_pieces.result _ _ _ _ (stretch_cell c.args.p c.args.q) c.put_pieces.ensures.front
