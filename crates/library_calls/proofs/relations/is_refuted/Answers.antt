use Rattle.std.proofs.Common.{Some, ◌∙◌, ap}
use Rattle.library_calls.proofs.CoverFacts.{covers_none_outside, contains_none_outside, covered_where_inside}
use Rattle.library_calls.proofs.relations.is_refuted.Goals as goal

pub returns-in-Covers : goal.returns-in-Covers
returns-in-Covers c h n known =
    covers_none_outside n c.args.first.now c.args.second.now (known ∙ ap Some c.in-Covers.is)
    c.geometry-first.ensures.valid c.geometry-second.ensures.valid (c.has_position_outside.ensures.outside h)

pub returns-in-ContainsProperly : goal.returns-in-ContainsProperly
returns-in-ContainsProperly c h n known =
    contains_none_outside n c.args.first.now c.args.second.now (known ∙ ap Some c.in-ContainsProperly.is)
    c.geometry-first.ensures.valid c.geometry-second.ensures.valid (c.has_position_outside-in-ContainsProperly.ensures.outside h)

pub returns-in-CoveredBy : goal.returns-in-CoveredBy
returns-in-CoveredBy c h n known =
    covered_where_inside n c.args.first.now c.args.second.now (known ∙ ap Some c.in-CoveredBy.is)
    c.geometry-first.ensures.valid c.geometry-second.ensures.valid (c.has_position_outside-in-CoveredBy.ensures.outside h)
