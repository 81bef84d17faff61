use Rattle.geometry_laws.proofs.ValidParts.{line_string_is_valid}
use Rattle.geometry_laws.proofs.parts.line_string_is_valid.Goals as goal

pub returns : goal.returns
returns c = line_string_is_valid
