use Rattle.std.proofs.Common.{◌≡◌, map}
use Rattle.std.specs.List.{range_with_len}
use Rattle.feature_table.specs.FlatRows.{row_at}
use Rattle.table_model.specs.Loading.{key_of}
use Rattle.feature_table.proofs.keys.keys_of.Given as goal

abbrev pub invariant-loop-place : goal.invariant-loop-place
invariant-loop-place l = l.keys.items ≡ map (λ place. key_of l.key (row_at l.width l.values place)) (range_with_len 0 l.place)
