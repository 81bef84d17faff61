use Rattle.std.proofs.Common.{rules}
use Rattle.noding.proofs.gaps.Gaps.shared.Goals as goal

pub returns : goal.returns
returns c = search rules
