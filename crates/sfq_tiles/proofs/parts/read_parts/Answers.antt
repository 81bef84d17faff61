-- One part more is that of its word.
use Rattle.std.proofs.Common.{◌<◌, arith, length, refl}
use Rattle.sfq_tiles.proofs.SplitLemmas.{named_more}
use Rattle.sfq_tiles.proofs.parts.read_parts.Goals as goal

pub loop-word-preserved : goal.loop-word-preserved
loop-word-preserved c =
    let within : c.loop-word.word-index < length c.args.words.now = omega arith in
    named_more c.args.schema.now c.args.words.now c.loop-word.word-index _ _ c.loop-word.parts.items _ _ within refl
    c.loop-word.invariant c.in_ok-part.ensures c.in_ok-push.ensures.items
