use Rattle.std.proofs.Common.{rules}
use Rattle.feature_table.proofs.geometry_fields.takes_type.Goals as goal

pub returns-in-Some : goal.returns-in-Some
returns-in-Some c = search rules
