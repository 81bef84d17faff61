-- The places of the columns that the names list.
use Rattle.std.proofs.Common.{◌∙◌, ◌==◌, ◌||◌, filter, length}
use Rattle.std.specs.Prelude.{slice_get}
use Rattle.std.specs.List.{list_any, range_with_len}
use Rattle.sfq_tiles.specs.Words.{is_called}
use Rattle.sfq_tiles.proofs.WordLemmas.{places_are}
use Rattle.sfq_tiles.proofs.parts.listed_columns.Goals as goal

pub returns : goal.returns
returns c =
    let table = c.args.table.now in
    c.in_ok-columns.ensures
    ∙ (λ i. filter
    (λ place. (place == table.key)
    || list_any (λ name. is_called name.now (slice_get table.columns place)) (c.as_slice.ensures.value i))
    (range_with_len 0 (c.column_count.ensures i)))
    ∙ places_are table c.args.list.now c.in_ok-names.names.items (length table.columns) c.in_ok-names.ensures
