use Rattle.std.proofs.Common.{sym}
use Rattle.validity.proofs.first_faults.hole_nested.Goals as goal

pub returns-else-branch : goal.returns-else-branch
returns-else-branch c = sym (c.in_ok-may_holes_nest_in_a_crowd.ensures c.if-branch.false)
