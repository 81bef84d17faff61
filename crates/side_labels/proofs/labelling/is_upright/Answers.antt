use Rattle.std.proofs.Common.{rules}
use Rattle.side_labels.proofs.labelling.is_upright.Goals as goal

pub returns : goal.returns
returns c = search rules
