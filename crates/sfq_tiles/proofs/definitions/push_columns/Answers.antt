-- The columns before this one were pushed; this one comes after them.
use Rattle.std.proofs.Common.{string_bytes}
use Rattle.std.specs.List.{slice_index_or}
use Rattle.sfq_tiles.specs.SchemaTexts.{copied_text}
use Rattle.sfq_tiles.proofs.TextLemmas.{number_pushed}
use Rattle.sfq_tiles.proofs.definitions.push_columns.Goals as goal

pub loop-turn-preserved : goal.loop-turn-preserved
loop-turn-preserved c =
    number_pushed (λ turn. copied_text c.args.table.now turn (slice_index_or c.args.places.now turn 0)) c.loop-turn.turn _ (string_bytes c.loop-turn.text) _ c.loop-turn.invariant c.in_ok-push_copied.ensures
