use Rattle.std.proofs.Common.{rules}
use Rattle.noding.proofs.gaps.Gaps.stops.Goals as goal

pub returns : goal.returns
returns c = search rules
