use Rattle.std.proofs.Common.{◌≡◌, ◌==◌, ◌||◌, filter}
use Rattle.std.specs.Prelude.{slice_get}
use Rattle.std.specs.List.{list_any, range_with_len}
use Rattle.sfq_tiles.specs.Words.{is_called}
use Rattle.sfq_tiles.proofs.parts.listed_places.Given as goal

-- the places before this one that are copied
abbrev pub invariant-loop-place : goal.invariant-loop-place
invariant-loop-place l =
    l.columns.items
    ≡ filter (λ place. (place == l.table.key) || list_any (λ name. is_called name.now (slice_get l.table.columns place)) l.names)
    (range_with_len 0 l.place)
