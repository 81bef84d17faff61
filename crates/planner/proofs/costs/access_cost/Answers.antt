use Rattle.std.proofs.Common.{rules}
use Rattle.planner.proofs.costs.access_cost.Goals as goal

pub returns-in-Probe-clause-cost : goal.returns-in-Probe-clause-cost
returns-in-Probe-clause-cost c = search rules
