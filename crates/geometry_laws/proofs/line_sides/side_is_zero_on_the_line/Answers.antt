use Rattle.geometry_laws.proofs.LineSides.{zero_exactly_on_line}
use Rattle.geometry_laws.proofs.line_sides.side_is_zero_on_the_line.Goals as goal

pub returns : goal.returns
returns c = zero_exactly_on_line
