use Rattle.std.proofs.Common.{◌≡◌, [], replicate}
use Rattle.kept_tables.proofs.kept_databases.empty_tables.Given as goal

abbrev pub invariant-loop-place : goal.invariant-loop-place
invariant-loop-place g l = l.tables.items ≡ replicate l.place []
