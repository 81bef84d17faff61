use Rattle.std.proofs.Common.{◌≡◌, take}
use Rattle.feature_table.specs.Indexes.{column_envelopes}
use Rattle.feature_table.proofs.indexes.index_of.Given as goal

abbrev pub invariant-loop-place : goal.invariant-loop-place
invariant-loop-place g l = l.envelopes.items ≡ column_envelopes l.column (take l.place l.rows)
