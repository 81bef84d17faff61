use Rattle.std.proofs.Common.{rules}
use Rattle.rtree.proofs.envelopes.Envelope.with_positions.Goals as goal

pub returns : goal.returns
returns c = search rules
