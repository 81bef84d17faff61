use Rattle.geometry_laws.proofs.LineSides.{side_turned}
use Rattle.geometry_laws.proofs.line_sides.side_is_antisymmetric.Goals as goal

pub returns : goal.returns
returns c = side_turned
