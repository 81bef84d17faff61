use Rattle.std.proofs.Common.{◌≡◌, ◌++◌, length}
use Rattle.table_model.specs.Binding as spec
use Rattle.spatial_sql.proofs.strings.unquoted.Given as goal

abbrev pub invariant-loop-rest : goal.invariant-loop-rest
invariant-loop-rest l = l.bytes ++ spec.unquoted l.rest ≡ spec.unquoted l.initial.rest

abbrev pub decreases-loop-rest : goal.decreases-loop-rest
decreases-loop-rest l = length l.rest
