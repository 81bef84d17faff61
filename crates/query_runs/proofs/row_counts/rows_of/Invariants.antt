use Rattle.std.proofs.Common.{◌≡◌, length, map, take}
use Rattle.query_runs.proofs.row_counts.rows_of.Given as goal

-- the rows of the tables before this one are counted
abbrev pub invariant-loop-place : goal.invariant-loop-place
invariant-loop-place g l = l.rows.items ≡ map length (take l.place l.database.tables)
