use Rattle.std.proofs.Common.{rules, ◌≡◌, ◌∙◌}
use Rattle.geometry_model.specs.WellKnownText.{same_position}
use Rattle.fraction.proofs.OrderLemmas.{same_position_is}
use Rattle.fraction.proofs.grid_points.GridPointPartialEq.eq.Goals as goal

pub returns-clause-exact : goal.returns-clause-exact
returns-clause-exact c = let e : c.eq.result ≡ same_position c.args.self.now c.args.other.now = search rules in e ∙ same_position_is c.args.self.now c.args.other.now
