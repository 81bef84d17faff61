use Rattle.std.proofs.Common.{sym}
use Rattle.validity.proofs.ApartRings.{no_elements_meet}
use Rattle.validity.proofs.first_faults.polygons_meet.Goals as goal

pub returns-then-branch : goal.returns-then-branch
returns-then-branch c = sym (no_elements_meet c.args.outline.now (c.in_ok-are_apart_in_a_crowd.ensures c.if-branch.true))
