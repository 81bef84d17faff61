use Rattle.tiles.proofs.ReadBack.{tables_are_read}
use Rattle.tiles.proofs.written_laws.written_tables_are_read.Goals as goal

pub returns : goal.returns
returns c = tables_are_read
