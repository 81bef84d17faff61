use Rattle.std.proofs.Common.{rules}
use Rattle.noding.proofs.noded.Noded.pieces.Goals as goal

pub returns : goal.returns
returns c = search rules
