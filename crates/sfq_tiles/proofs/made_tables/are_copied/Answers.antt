-- This column is copied too.
use Rattle.std.proofs.Common.{rules, ◌≡◌, true}
use Rattle.std.specs.List.{slice_index_or}
use Rattle.sfq_tiles.specs.MadeTables.{IsCopied}
use Rattle.sfq_tiles.proofs.PlaceLemmas.{one_more_holds}
use Rattle.sfq_tiles.proofs.made_tables.are_copied.Goals as goal

pub loop-turn-preserved : goal.loop-turn-preserved
loop-turn-preserved c =
    let good : c.is_copied.result ≡ true = search rules in
    one_more_holds (λ turn. IsCopied c.args.source.now (slice_index_or c.args.places.now turn 0) c.args.made.now turn) c.loop-turn.turn c.loop-turn.invariant (c.is_copied.ensures.0 good)
