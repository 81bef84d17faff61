-- Places beside the keys there.
use Rattle.std.specs.Prelude.{ℕ, ℤ, pos, List}
use Rattle.std.specs.List.{slice_index_or}
use Rattle.feature_table.specs.declared.keys.KeyPlace.{KeyPlace}

-- the key at a place; 0 past the last
abbrev pub key_at : List ℤ → ℕ → ℤ
key_at keys place = slice_index_or keys place (pos 0)

-- the place beside its key
abbrev pub key_place : List ℤ → ℕ → KeyPlace
key_place keys place = record { number = key_at keys place; place = place }
