use Rattle.std.proofs.Common.{sym, ◌∙◌, rules}
use Rattle.std.proofs.lemmas.Int.{to_z-of_z}
use mir.Syntax.{w32}
use mir.Val.{SFits}
use Rattle.edge_boxes.proofs.StripSides.{under_says, over_says}
use Rattle.edge_boxes.proofs.point_crossings.shown_by_strip.Goals as goal

pub returns-then-is_under : goal.returns-then-is_under
returns-then-is_under c p es is of ends = under_says c.args.strip.now c.args.cell.now p es is of (sym c.is_under.ensures ∙ c.if-is_under.true)

pub returns-then-ends : goal.returns-then-ends
returns-then-ends c p es is of ends =
    let f : SFits w32 c.args.cell.now.floor_x = search rules in
    rw c.above.ensures (over_says c.args.strip.now c.args.ends.now c.args.cell.now p es is of ends (sym c.is_over.ensures ∙ c.if-is_over.true) c.if-ends.true c.spans.result (simp to_z-of_z at c.spans.ensures))
