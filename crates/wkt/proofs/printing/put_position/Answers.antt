use Rattle.std.proofs.Common.{rules}
use Rattle.wkt.proofs.printing.put_position.Goals as goal

pub returns-clause-ok : goal.returns-clause-ok
returns-clause-ok g c = search rules

pub returns-clause-front : goal.returns-clause-front
returns-clause-front g c = search rules
