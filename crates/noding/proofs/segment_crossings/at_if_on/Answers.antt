use Rattle.std.proofs.Common.{[], ◌∷◌}
use Rattle.geometry_model.specs.Points.{IsLeast}
use Rattle.matrix_laws.proofs.MatrixLists.{all_from_each}
use Rattle.noding.proofs.segment_crossings.at_if_on.Goals as goal

pub returns-then-on-clause-least : goal.returns-then-on-clause-least
returns-then-on-clause-least c = all_from_each IsLeast (c.args.p ∷ []) (c.requires.least, tt)
