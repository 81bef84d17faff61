use Rattle.std.proofs.Common.{rules}
use Rattle.noding.proofs.noded.Noded.nodes.Goals as goal

pub returns : goal.returns
returns c = search rules
