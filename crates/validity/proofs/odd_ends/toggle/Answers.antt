use Rattle.std.proofs.Common.{rules}
use Rattle.validity.proofs.odd_ends.toggle.Goals as goal

pub returns-then-is_last : goal.returns-then-is_last
returns-then-is_last c = search rules
