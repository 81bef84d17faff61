use Rattle.kept_tables.proofs.LoadedTables.{loaded_texts_are_kept}
use Rattle.kept_tables.proofs.kept_laws.loaded_texts_are_kept.Goals as goal

pub returns : goal.returns
returns c = loaded_texts_are_kept
