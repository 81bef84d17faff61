-- The pieces joined are the text.
use Rattle.std.proofs.Common.{decimal}
use Rattle.streams.proofs.PartLemmas.{front-same}
use Rattle.witnesses.proofs.FaultTextLemmas.{paired_parts}
use Rattle.witnesses.proofs.fault_lines.put_paired.Goals as goal

pub returns-clause-front : goal.returns-clause-front
returns-clause-front g c = front-same c.put_pieces.result _ _ _ _ (paired_parts c.args.code.now (decimal c.args.first) (decimal c.args.second)) c.put_pieces.ensures.front
