use Rattle.std.proofs.Common.{rules}
use Rattle.de9im.proofs.relating.relate.Goals as goal

pub returns-clause-point_sets : goal.returns-clause-point_sets
returns-clause-point_sets c = search rules

pub returns-in_err-cells-clause-refused : goal.returns-in_err-cells-clause-refused
returns-in_err-cells-clause-refused c = search rules
