-- What `relate` promises of the two geometries as they are given, the first before the second.
use Rattle.text_commands.proofs.relate.matrix_of.Goals as goal

pub returns-in-Ok-clause-point_sets : goal.returns-in-Ok-clause-point_sets
returns-in-Ok-clause-point_sets c = c.in-Ok.ensures.point_sets
