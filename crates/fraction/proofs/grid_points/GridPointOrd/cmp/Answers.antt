use Rattle.std.proofs.Common.{rules, ◌≡◌, ◌∙◌}
use Rattle.fraction.specs.Orders.{position_order}
use Rattle.fraction.proofs.OrderLemmas.{position_order_is}
use Rattle.fraction.proofs.grid_points.GridPointOrd.cmp.Goals as goal

pub returns-clause-exact : goal.returns-clause-exact
returns-clause-exact c = let e : c.cmp.result ≡ position_order c.args.self.now c.args.other.now = search rules in e ∙ position_order_is c.args.self.now c.args.other.now
