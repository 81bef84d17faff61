use Rattle.geometry_laws.proofs.ValidParts.{multi_line_string_is_valid}
use Rattle.geometry_laws.proofs.parts.multi_line_string_is_valid.Goals as goal

pub returns : goal.returns
returns c = multi_line_string_is_valid
