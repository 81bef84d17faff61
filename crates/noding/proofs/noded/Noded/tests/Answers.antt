use Rattle.std.proofs.Common.{rules}
use Rattle.noding.proofs.noded.Noded.tests.Goals as goal

pub returns : goal.returns
returns c = search rules
