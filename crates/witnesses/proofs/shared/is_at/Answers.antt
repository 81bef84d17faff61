use Rattle.geometry_model.specs.Points.{point_at}
use Rattle.witnesses.proofs.SharedFacts.{at_equal, at_other}
use Rattle.witnesses.proofs.shared.is_at.Goals as goal

pub returns-in-Equal : goal.returns-in-Equal
returns-in-Equal c = at_equal c.args.p.now c.of_grid.result (point_at c.args.at) c.cmp.result c.cmp.ensures.exact c.of_grid.ensures c.in-Equal.is

pub returns-in_default : goal.returns-in_default
returns-in_default c = at_other c.args.p.now c.of_grid.result (point_at c.args.at) c.cmp.result c.cmp.ensures.exact c.of_grid.ensures c.in_default.not-Equal
