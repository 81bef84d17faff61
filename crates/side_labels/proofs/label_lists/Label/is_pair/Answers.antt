use Rattle.std.proofs.Common.{rules}
use Rattle.side_labels.proofs.label_lists.Label.is_pair.Goals as goal

pub returns-then-same_location : goal.returns-then-same_location
returns-then-same_location c = search rules

pub returns-else-same_location : goal.returns-else-same_location
returns-else-same_location c = search rules
