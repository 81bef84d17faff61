use Rattle.std.proofs.Common.{rules}
use Rattle.de9im.proofs.pattern.matches_cells.Goals as goal

pub returns-then-takes-8 : goal.returns-then-takes-8
returns-then-takes-8 c = search rules
