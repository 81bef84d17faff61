use Rattle.std.proofs.Common.{◌≡◌, flat_map, take}
use Rattle.feature_table.specs.FlatRows.{row_at}
use Rattle.feature_table.proofs.values.cells_in_order.Given as goal

-- the cells of the rows at the places before this one
abbrev pub invariant-loop-place : goal.invariant-loop-place
invariant-loop-place l = l.moved.items ≡ flat_map (row_at l.width l.cells) (take l.place-index l.order)
