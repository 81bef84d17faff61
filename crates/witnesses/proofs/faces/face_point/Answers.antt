use Rattle.witnesses.proofs.FaceFacts.{both_up, both_down, clears_kept}
use Rattle.witnesses.proofs.faces.face_point.Goals as goal

pub returns-clause-above : goal.returns-clause-above
returns-clause-above c = both_up c.args.side c.args.first.now c.args.second.now c.args.p.now c.half_way.result c.past_geometry.result c.half_way.ensures.is_point c.half_way.ensures.half
    (clears_kept c.args.side c.args.p.now c.past_geometry-of_first.result c.past_geometry.result c.args.first.now c.past_geometry.ensures.keeps c.past_geometry-of_first.ensures.clears) c.past_geometry.ensures.clears

pub returns-clause-below : goal.returns-clause-below
returns-clause-below c = both_down c.args.side c.args.first.now c.args.second.now c.args.p.now c.half_way.result c.past_geometry.result c.half_way.ensures.is_point c.half_way.ensures.half
    (clears_kept c.args.side c.args.p.now c.past_geometry-of_first.result c.past_geometry.result c.args.first.now c.past_geometry.ensures.keeps c.past_geometry-of_first.ensures.clears) c.past_geometry.ensures.clears
