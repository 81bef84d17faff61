-- A query that is to have no rows gives none when it begins anew.
use Rattle.std.proofs.Common.{refl}
use Rattle.statements.proofs.prepared.Statement.close.Goals as goal

pub returns-clause-none : goal.returns-clause-none
returns-clause-none g c = λ matrix m. refl
