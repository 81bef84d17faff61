use Rattle.std.proofs.Common.{◌≡◌, map}
use Rattle.std.specs.List.{range_with_len}
use Rattle.feature_table.specs.KeyPlaces.{key_place}
use Rattle.feature_table.proofs.keys.with_places.Given as goal

abbrev pub invariant-loop-place : goal.invariant-loop-place
invariant-loop-place l = l.keyed.items ≡ map (key_place l.keys) (range_with_len 0 l.place)
