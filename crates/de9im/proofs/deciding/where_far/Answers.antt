use Rattle.std.proofs.Common.{true, subst, sym, ◌∙◌}
use Rattle.de9im.specs.Deciding.{HoldsWhereFar}
use Rattle.de9im.proofs.CommonPoints.{disjoint_where_far, fails_where_far}
use Rattle.de9im.proofs.deciding.where_far.Goals as goal

pub returns-then-forces_meeting : goal.returns-then-forces_meeting
returns-then-forces_meeting c a b = fails_where_far c.args.predicate a b (sym c.forces_meeting.ensures ∙ c.if-forces_meeting.true)

pub returns-in-Disjoint : goal.returns-in-Disjoint
returns-in-Disjoint c = subst (λ p. HoldsWhereFar p true) (sym c.in-Disjoint.is) disjoint_where_far
