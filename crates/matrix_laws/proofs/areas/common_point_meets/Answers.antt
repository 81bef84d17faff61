use Rattle.matrix_laws.proofs.Outside.{common_point_meets}
use Rattle.matrix_laws.proofs.areas.common_point_meets.Goals as goal

pub returns : goal.returns
returns c = common_point_meets
