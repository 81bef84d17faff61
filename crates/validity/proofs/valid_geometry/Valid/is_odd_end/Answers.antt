use Rattle.std.proofs.Common.{◌∙◌}
use Rattle.validity.proofs.valid_geometry.Valid.is_odd_end.Goals as goal

pub is_at_one-requires : goal.is_at_one-requires
is_at_one-requires c = c.odd_ends.ensures.ascend

pub returns : goal.returns
returns c = c.is_at_one.ensures.applies ∙ c.odd_ends.ensures.exact c.args.p.now c.is_at_one.ensures.point
