-- The pieces joined are the text.
use Rattle.std.proofs.Common.{codes, decimal}
use Rattle.streams.proofs.PartLemmas.{front-same}
use Rattle.witnesses.proofs.TextLemmas.{three_parts}
use Rattle.witnesses.proofs.fault_lines.put_numbered.Goals as goal

pub returns-clause-front : goal.returns-clause-front
returns-clause-front g c = front-same c.put_pieces.result _ _ _ _ (three_parts c.args.code.now (decimal c.args.number) (codes ": ")) c.put_pieces.ensures.front
