use Rattle.std.proofs.Common.{◌≡◌, map, take}
use Rattle.feature_table.specs.Indexes.{absent}
use Rattle.feature_table.proofs.indexes.bare_index.Given as goal

abbrev pub invariant-loop-place : goal.invariant-loop-place
invariant-loop-place g l = l.envelopes.items ≡ map absent (take l._place l.rows)
