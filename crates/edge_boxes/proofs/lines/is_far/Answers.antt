use Rattle.std.proofs.Common.{sym, rules, ◌≡◌, ◌∙◌, false}
use Rattle.geometry_model.specs.Envelopes.{overlap}
use Rattle.edge_boxes.proofs.Far.{far_by_bounds, far_by_strip}
use Rattle.edge_boxes.proofs.lines.is_far.Goals as goal

pub returns-then-not-overlap : goal.returns-then-not-overlap
returns-then-not-overlap c _ =
    let far : overlap c.args.run.now.bounds c.args.bounds.now ≡ false = search rules in
    far_by_bounds c.args.run.now c.args.edge.now (rw c.requires at far)

pub returns-in-Some : goal.returns-in-Some
returns-in-Some c beside = far_by_strip c.args.run.now c.in-Some.strip c.args.edge.now c.in-Some.is (sym c.is_beside.ensures ∙ beside)
