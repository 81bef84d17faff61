use Rattle.std.proofs.Common.{rules}
use Rattle.side_labels.proofs.label_lists.Labels.nodes.Goals as goal

pub returns : goal.returns
returns c = search rules
