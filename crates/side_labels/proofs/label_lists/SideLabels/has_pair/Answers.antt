use Rattle.std.proofs.Common.{rules}
use Rattle.side_labels.proofs.label_lists.SideLabels.has_pair.Goals as goal

pub returns-then-is_pair : goal.returns-then-is_pair
returns-then-is_pair c = search rules

pub returns-else-is_pair : goal.returns-else-is_pair
returns-else-is_pair c = search rules
