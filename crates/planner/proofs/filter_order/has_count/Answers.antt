use Rattle.std.proofs.Common.{rules}
use Rattle.planner.proofs.filter_order.has_count.Goals as goal

pub returns-in-None : goal.returns-in-None
returns-in-None g c = search rules
