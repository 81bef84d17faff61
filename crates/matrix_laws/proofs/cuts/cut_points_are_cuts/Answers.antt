use Rattle.matrix_laws.proofs.CutOrder.{cut_points_are_cuts, cut_points_are_least, cut_points_ascend}
use Rattle.matrix_laws.proofs.cuts.cut_points_are_cuts.Goals as goal

pub returns-clause-cuts : goal.returns-clause-cuts
returns-clause-cuts c = cut_points_are_cuts

pub returns-clause-least : goal.returns-clause-least
returns-clause-least c = cut_points_are_least

pub returns-clause-ascending : goal.returns-clause-ascending
returns-clause-ascending c = cut_points_ascend
