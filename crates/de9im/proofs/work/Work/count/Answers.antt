use Rattle.std.proofs.Common.{rules}
use Rattle.de9im.proofs.work.Work.count.Goals as goal

pub returns : goal.returns
returns c = search rules
