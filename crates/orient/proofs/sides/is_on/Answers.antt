use Rattle.std.specs.Prelude.{pos}
use Rattle.std.proofs.Common.{sym, ap, ◌∙◌, to_z, of_z}
use Rattle.std.proofs.lemmas.Int.{to_z-of_z}
use Rattle.std.proofs.lemmas.Bool.{ne_eqb}
use mir.Syntax.{w128}
use Rattle.basics.proofs.Tests.{equal_yes, equal_no}
use Rattle.geometry_model.specs.Sides.{side}
use Rattle.orient.proofs.Tests.{others_decide, all_fail}
use Rattle.orient.proofs.sides.is_on.Goals as goal

pub returns-then-side-eq0 : goal.returns-then-side-eq0
returns-then-side-eq0 c =
    let is_zero = sym c.requires ∙ sym (to_z-of_z w128 c.args.side c.ranges.side) ∙ ap (to_z w128) c.if-side-eq0.true in
    others_decide c.is_within_ends.result _ _ _ (equal_yes (side c.args.segment.now.start c.args.segment.now.end c.args.p.now) (pos 0) is_zero) c.is_within_ends.ensures

pub returns-else-side-eq0 : goal.returns-else-side-eq0
returns-else-side-eq0 c =
    let other = equal_no (side c.args.segment.now.start c.args.segment.now.end c.args.p.now) (pos 0) (λ e. c.if-side-eq0.false (ap (of_z w128) (c.requires ∙ e))) in
    all_fail _ _ _ _ other (ne_eqb (of_z w128 c.args.side) 0 c.if-side-eq0.false)
