use Rattle.std.proofs.Common.{rules}
use Rattle.geometry_model.specs.TextReading.{coordinate}
use Rattle.wkt.proofs.coordinate_reader.Number.coordinate.Goals as goal

pub returns-in_default-clause-value : goal.returns-in_default-clause-value
unfolding coordinate
returns-in_default-clause-value c = search rules

pub returns-then-self-clause-value : goal.returns-then-self-clause-value
unfolding coordinate
returns-then-self-clause-value c = search rules

pub returns-else-self-clause-value : goal.returns-else-self-clause-value
unfolding coordinate
returns-else-self-clause-value c = search rules
