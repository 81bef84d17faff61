use Rattle.std.proofs.Common.{◌≡◌}
use Rattle.std.specs.List.{range_with_len}
use Rattle.sfq_tiles.proofs.parts.all_columns.Given as goal

-- the places before this one
abbrev pub invariant-loop-place : goal.invariant-loop-place
invariant-loop-place l = l.columns.items ≡ range_with_len 0 l.place
