use Rattle.std.proofs.Common.{rules}
use Rattle.side_labels.proofs.piece_sides.sides_by.Goals as goal

pub returns-in-Area-clause-lower : goal.returns-in-Area-clause-lower
returns-in-Area-clause-lower c = search rules

pub returns-in-Area-clause-upper : goal.returns-in-Area-clause-upper
returns-in-Area-clause-upper c = search rules
