-- The bytes before `at` were written; what a write more wrote comes after them.
use Rattle.std.proofs.Common.{arith, length-drop, length-take}
use Rattle.streams.proofs.SinkLemmas.{put_all-more}
use Rattle.sfq_tiles.proofs.FileLemmas.{write_front}
use Rattle.sfq_tiles.proofs.files.write_whole.Goals as goal

pub loop-at-preserved : goal.loop-at-preserved
loop-at-preserved g c = record {
  within = grind (arith, length-take, length-drop, c.in-Ok.ensures.bound, c.loop-at.invariant.within);
  written = put_all-more _ _ _ c.loop-at.at c.in-Ok.count c.args.bytes.now c.loop-at.invariant.written c.in-Ok.ensures.bytes;
}

pub returns-in_default-clause-front : goal.returns-in_default-clause-front
returns-in_default-clause-front g c = write_front _ _ _ c.loop-at.at c.args.bytes.now c.write_again.result c.loop-at.invariant.written c.write_again.ensures.bytes

pub returns-in_default-2-clause-front : goal.returns-in_default-2-clause-front
returns-in_default-2-clause-front g c = write_front _ _ _ c.loop-at.at c.args.bytes.now c.write_again.result c.loop-at.invariant.written c.write_again.ensures.bytes
