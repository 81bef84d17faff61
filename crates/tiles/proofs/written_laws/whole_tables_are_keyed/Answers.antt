use Rattle.tiles.proofs.WholeTables.{whole_tables_are_keyed as law}
use Rattle.tiles.proofs.written_laws.whole_tables_are_keyed.Goals as goal

pub returns : goal.returns
returns c = law
