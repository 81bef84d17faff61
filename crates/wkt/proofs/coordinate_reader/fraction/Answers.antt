use Rattle.std.proofs.Common.{rules}
use Rattle.geometry_model.specs.TextReading.{fraction}
use Rattle.wkt.proofs.coordinate_reader.fraction.Goals as goal

pub returns-else-eat : goal.returns-else-eat
unfolding fraction
returns-else-eat c = search rules

pub returns-then-eat : goal.returns-then-eat
unfolding fraction
returns-then-eat c = search rules
