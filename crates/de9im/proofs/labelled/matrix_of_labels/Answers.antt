use Rattle.std.proofs.Common.{rules}
use Rattle.de9im.proofs.labelled.matrix_of_labels.Goals as goal

pub returns : goal.returns
returns c = search rules
