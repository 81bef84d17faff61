use Rattle.std.proofs.Common.{rules}
use Rattle.de9im.proofs.meeting.PredicateSpatialPredicate.forces_meeting.Goals as goal

pub returns-in-Relate : goal.returns-in-Relate
returns-in-Relate c = search rules
