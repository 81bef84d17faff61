-- One part more.
use Rattle.std.proofs.Common.{◌+◌, ap, arith}
use Rattle.std.specs.List.{count_by}
use Rattle.explanations.specs.Lines.{ends_line}
use Rattle.explanations.proofs.LineLemmas.{both_parts}
use Rattle.explanations.proofs.lines.line_number.Goals as goal

pub loop-at-preserved : goal.loop-at-preserved
loop-at-preserved c =
    let at = c.loop-at.at in
    let counted = ap (count_by ends_line) c.part.ensures in
    let both = both_parts c.args.text.now at (at + 255) (omega arith) in
    record {
      within = omega (arith, c.loop-at-test.true);
      number = omega (arith, c.loop-at.invariant.number, c.from-number.ensures, c.line_feeds.ensures, counted, both);
      few = omega (arith, c.loop-at.invariant.few, c.from-number.ensures, c.line_feeds.type_inv);
    }

pub returns : goal.returns
returns c =
    let at = c.loop-at.at in
    let counted = ap (count_by ends_line) c.part-2.ensures in
    let both = both_parts c.args.text.now at c.args.place c.loop-at.invariant.within in
    omega (arith, c.loop-at.invariant.number, c.from.ensures, c.line_feeds-2.ensures, counted, both)
