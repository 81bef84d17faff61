use Rattle.std.proofs.lemmas.Int.{to_z-of_z}
use mir.Syntax.{w64}
use mir.Val.{SFits}
use Rattle.geometry_model.specs.Points.{point_at}
use Rattle.orient.proofs.Rightward.{strictly_from, at_or_from}
use Rattle.orient.proofs.crossings.crossing_at_position.Goals as goal

pub returns-clause-strictly_above : goal.returns-clause-strictly_above
returns-clause-strictly_above c =
    let f : SFits w64 c.side_number-side.result = record { sfits = c.side_number-side.type_inv } in
    strictly_from c.args.segment.now (point_at c.args.at) c.side_number-side.result c.is_rightward-is_rightward.result c.spans_position-spans.result c.is_short_below.result
    c.side_number-side.ensures.value c.is_rightward-is_rightward.ensures c.spans_position-spans.ensures (simp to_z-of_z at c.is_short_below.ensures)

pub returns-clause-at_or_above : goal.returns-clause-at_or_above
returns-clause-at_or_above c =
    let f : SFits w64 c.side_number-side.result = record { sfits = c.side_number-side.type_inv } in
    at_or_from c.args.segment.now (point_at c.args.at) c.side_number-side.result c.is_rightward-is_rightward.result c.spans_position-spans.result c.is_short_at_most.result
    c.side_number-side.ensures.value c.is_rightward-is_rightward.ensures c.spans_position-spans.ensures (simp to_z-of_z at c.is_short_at_most.ensures)
