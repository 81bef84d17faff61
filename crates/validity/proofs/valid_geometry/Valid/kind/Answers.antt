use Rattle.std.proofs.Common.{rules}
use Rattle.validity.proofs.valid_geometry.Valid.kind.Goals as goal

pub returns : goal.returns
returns c = search rules
