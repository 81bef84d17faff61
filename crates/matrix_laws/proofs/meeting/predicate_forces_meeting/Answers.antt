use Rattle.matrix_laws.proofs.MeetingFacts.{predicate_forces_meeting}
use Rattle.matrix_laws.proofs.meeting.predicate_forces_meeting.Goals as goal

pub returns : goal.returns
returns c = predicate_forces_meeting
