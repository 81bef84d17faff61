use Rattle.std.proofs.Common.{rules}
use Rattle.feature_table.proofs.indexes.envelope_in.Goals as goal

pub returns-in-Some-Geom : goal.returns-in-Some-Geom
returns-in-Some-Geom c = search rules
