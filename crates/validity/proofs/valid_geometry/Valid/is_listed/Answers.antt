use Rattle.std.proofs.Common.{rules, arith}
use Rattle.std.proofs.lemmas.Grind.{common_steps}
use Rattle.validity.proofs.valid_geometry.Valid.is_listed.Goals as goal

pub returns-then-eq : goal.returns-then-eq
returns-then-eq c = first_of (search rules, grind (arith, common_steps))

pub returns-else-eq : goal.returns-else-eq
returns-else-eq c = first_of (search rules, grind (arith, common_steps))
