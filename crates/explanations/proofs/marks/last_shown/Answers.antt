-- One byte more behind the place takes its columns of what is left.
use Rattle.std.proofs.Common.{◌<◌, arith, length}
use Rattle.explanations.proofs.MarkLemmas.{columns_behind}
use Rattle.explanations.proofs.marks.last_shown.Goals as goal

pub loop-to-preserved : goal.loop-to-preserved
loop-to-preserved c =
    let held = c.loop-to.invariant in
    let within : c.loop-to.to < length c.args.text.now = omega (arith, c.loop-to-test.true, c.requires.1) in
    let more = columns_behind c.args.utf8 c.args.text.now c.args.place c.loop-to.to held.place within in
    record {
      place = omega (arith, held.place);
      end = omega (arith, c.loop-to-test.true);
      left = omega (arith, more, held.left, c.width.ensures.is, c.width-left.ensures.is, c.if-width-left.true);
    }
