use Rattle.std.proofs.Common.{[], ◌<◌, arith, get_or, length, refl}
use Rattle.std.proofs.lemmas.List.{get_or_default}
use Rattle.feature_table.specs.Indexes.{absent}
use Rattle.feature_table.proofs.MapLemmas.{one_more_mapped}
use Rattle.feature_table.proofs.indexes.bare_index.Goals as goal

pub loop-place-preserved : goal.loop-place-preserved
loop-place-preserved g c =
    let rows = c.args.rows.now in
    let place = c.loop-place._place in
    let within : place < length rows = omega arith in
    one_more_mapped absent rows place (get_or rows place []) _ _ _ within (get_or_default rows place [] (get_or rows place []) within) c.loop-place.invariant refl c.in_ok-push.ensures.items
