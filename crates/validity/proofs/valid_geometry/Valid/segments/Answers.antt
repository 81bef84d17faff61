use Rattle.std.proofs.Common.{rules, arith}
use Rattle.std.proofs.lemmas.Grind.{common_steps}
use Rattle.validity.proofs.valid_geometry.Valid.segments.Goals as goal

pub returns-in-Larger : goal.returns-in-Larger
returns-in-Larger c = first_of (search rules, grind (arith, common_steps))
