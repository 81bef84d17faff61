use Rattle.std.proofs.Common.{◌≡◌, ◌++◌, string_bytes}
use Rattle.std.specs.List.{flat_map, range_with_len, slice_index_or}
use Rattle.sfq_tiles.specs.SchemaTexts.{copied_text}
use Rattle.sfq_tiles.proofs.definitions.push_columns.Given as goal

-- the columns before this one were pushed
abbrev pub invariant-loop-turn : goal.invariant-loop-turn
invariant-loop-turn l = string_bytes l.text ≡ string_bytes l.initial.text ++ flat_map (λ turn. copied_text l.table turn (slice_index_or l.places turn 0)) (range_with_len 0 l.turn)
