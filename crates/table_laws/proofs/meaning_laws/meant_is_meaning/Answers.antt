use Rattle.table_laws.proofs.Meaning.{meant_is_meaning}
use Rattle.table_laws.proofs.meaning_laws.meant_is_meaning.Goals as goal

pub returns : goal.returns
returns g c = meant_is_meaning g.row.G.Denot g.row.A.Denot g.row.C.Denot
