use Rattle.std.proofs.Common.{rules}
use Rattle.rtree.proofs.list_index.ListIndexEnvelopeIndex.build.Goals as goal

pub returns : goal.returns
returns c = search rules
