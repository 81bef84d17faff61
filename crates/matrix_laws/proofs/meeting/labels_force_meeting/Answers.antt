use Rattle.geometry_model.specs.Labels.{labelled_matrix}
use Rattle.matrix_laws.proofs.Matrices.{labels_give_matrix}
use Rattle.matrix_laws.proofs.MeetingFacts.{predicate_forces_meeting}
use Rattle.matrix_laws.proofs.meeting.labels_force_meeting.Goals as goal

pub returns : goal.returns
returns _ p a b forces va vb h = predicate_forces_meeting p a b (labelled_matrix a b) forces va vb (labels_give_matrix a b va vb) h
