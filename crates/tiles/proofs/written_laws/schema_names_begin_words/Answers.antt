use Rattle.tiles.proofs.SchemaNames.{schema_names_begin_words as law}
use Rattle.tiles.proofs.written_laws.schema_names_begin_words.Goals as goal

pub returns : goal.returns
returns c = law
