use Rattle.std.proofs.Common.{sym, ◌∙◌, rules}
use Rattle.std.proofs.lemmas.Int.{to_z-of_z}
use mir.Syntax.{w32}
use mir.Val.{SFits}
use Rattle.edge_boxes.proofs.Saying.{apart_says, over_says}
use Rattle.edge_boxes.proofs.StripSides.{shown_by_run}
use Rattle.edge_boxes.proofs.point_crossings.said.Goals as goal

pub returns-then-is_apart : goal.returns-then-is_apart
returns-then-is_apart c p es is sums = apart_says c.args.run.now c.args.cell.now p es is sums (sym c.is_apart.ensures ∙ c.if-is_apart.true)

pub returns-then-run : goal.returns-then-run
returns-then-run c p es is sums =
    let f : SFits w32 c.args.cell.now.floor_x = search rules in
    rw c.above.ensures (over_says c.args.run.now c.args.cell.now p es is sums (sym c.is_over.ensures ∙ c.if-is_over.true) c.if-run.true c.spans.result (simp to_z-of_z at c.spans.ensures))

pub returns-in-Some : goal.returns-in-Some
returns-in-Some c = shown_by_run c.shown_by_strip.result c.args.run.now c.in-Some.strip c.args.cell.now c.in-Some.is c.shown_by_strip.ensures
