use Rattle.std.proofs.Common.{rules}
use Rattle.rtree.proofs.envelopes.Envelope.greatest_x.Goals as goal

pub returns : goal.returns
returns c = search rules
