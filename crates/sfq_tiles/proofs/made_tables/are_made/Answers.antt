-- This table is that of its part too.
use Rattle.std.proofs.Common.{rules, ◌≡◌, true}
use Rattle.sfq_tiles.specs.MadeTables.{IsMadeAt}
use Rattle.sfq_tiles.proofs.PlaceLemmas.{one_more_holds}
use Rattle.sfq_tiles.proofs.made_tables.are_made.Goals as goal

pub loop-place-preserved : goal.loop-place-preserved
loop-place-preserved c =
    let good : c.is_made_at.result ≡ true = search rules in
    one_more_holds (IsMadeAt c.args.parts.now c.args.tables.now) c.loop-place.place c.loop-place.invariant (c.is_made_at.ensures.0 good)
