use Rattle.geometry_laws.proofs.ValidParts.{envelope_is_absent_where_empty}
use Rattle.geometry_laws.proofs.parts.envelope_is_absent_where_empty.Goals as goal

pub returns : goal.returns
returns c = envelope_is_absent_where_empty
