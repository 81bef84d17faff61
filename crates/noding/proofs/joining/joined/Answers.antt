use Rattle.std.proofs.Common.{sym, ◌∙◌}
use Rattle.noding.proofs.Held.{Follows, joined_from, joint_from, joint_holds_first, joint_holds_second, ordered, unordered, within_held}
use Rattle.noding.proofs.joining.joined.Goals as goal

pub returns : goal.returns
returns c =
    let follows : Follows c.args.one.now c.args.other.now = record {
      wide = c.end-to.ensures.differ;
      one_line = sym c.are_on_one_line.ensures ∙ c.if-not-are_on_one_line.false;
      not_after = unordered c.end-to.result c.start-next_from.result c.args.one.now.end c.args.other.now.start c.is_before.result c.is_before.ensures c.if-is_before.false c.end-to.ensures.value c.start-next_from.ensures;
      not_before = unordered c.start-next_from.result c.start-from.result c.args.other.now.start c.args.one.now.start c.is_before-else-is_before.result c.is_before-else-is_before.ensures c.if-is_before-2.false c.start-next_from.ensures c.start-from.ensures;
      longer = ordered c.end-to.result c.end-next_to.result c.args.one.now.end c.args.other.now.end c.is_before-2.result c.is_before-2.ensures c.if-not-is_before.false c.end-to.ensures.value c.end-next_to.ensures.value;
    } in
    record {
      held = joined_from c.args.one.now c.args.other.now c.new.result c.start-from.result c.end-next_to.result c.start-from.ensures c.end-next_to.ensures.value c.new.ensures.ends follows;
      first = joint_from c.args.one.now c.args.other.now c.args.one.now c.new.result c.start-from.result c.end-next_to.result c.start-from.ensures c.end-next_to.ensures.value c.new.ensures.ends (joint_holds_first c.args.one.now c.args.other.now follows);
      second = joint_from c.args.one.now c.args.other.now c.args.other.now c.new.result c.start-from.result c.end-next_to.result c.start-from.ensures c.end-next_to.ensures.value c.new.ensures.ends (joint_holds_second c.args.one.now c.args.other.now follows);
    }

pub returns-then-not-is_before-clause-second : goal.returns-then-not-is_before-clause-second
returns-then-not-is_before-clause-second c =
    within_held c.args.one.now c.args.other.now (sym c.are_on_one_line.ensures ∙ c.if-not-are_on_one_line.false)
    (unordered c.start-next_from.result c.start-from.result c.args.other.now.start c.args.one.now.start c.is_before-else-is_before.result c.is_before-else-is_before.ensures c.if-is_before-2.false c.start-next_from.ensures c.start-from.ensures)
    (unordered c.end-to.result c.start-next_from.result c.args.one.now.end c.args.other.now.start c.is_before.result c.is_before.ensures c.if-is_before.false c.end-to.ensures.value c.start-next_from.ensures)
    (unordered c.end-next_to.result c.start-from.result c.args.other.now.end c.args.one.now.start c.is_before-else-is_before-2.result c.is_before-else-is_before-2.ensures c.if-is_before-3.false c.end-next_to.ensures.value c.start-from.ensures)
    (unordered c.end-to.result c.end-next_to.result c.args.one.now.end c.args.other.now.end c.is_before-2.result c.is_before-2.ensures c.if-not-is_before.true c.end-to.ensures.value c.end-next_to.ensures.value)
