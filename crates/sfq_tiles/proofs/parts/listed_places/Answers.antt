-- One place more, if it is copied.
use Rattle.sfq_tiles.proofs.WordLemmas.{listed_more}
use Rattle.sfq_tiles.proofs.parts.listed_places.Goals as goal

pub loop-place-preserved : goal.loop-place-preserved
loop-place-preserved c =
    listed_more c.args.table.now c.args.names.now c.loop-place.place c.loop-place.columns.items _ _ c.loop-place.invariant
    c.is_copied.ensures c.in_ok-push_if.ensures
