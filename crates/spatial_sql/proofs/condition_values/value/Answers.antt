use Rattle.std.proofs.Common.{rules}
use Rattle.spatial_sql.proofs.condition_values.value.Goals as goal

pub prove-unreachable-requires : goal.prove-unreachable-requires
prove-unreachable-requires c = search rules
