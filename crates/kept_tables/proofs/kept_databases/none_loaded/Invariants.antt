use Rattle.std.proofs.Common.{◌≡◌, false, replicate}
use Rattle.kept_tables.proofs.kept_databases.none_loaded.Given as goal

abbrev pub invariant-loop-place : goal.invariant-loop-place
invariant-loop-place l = l.loaded.items ≡ replicate l._place false
