use Rattle.tiles.proofs.LoadedTexts.{texts_are_loaded as law}
use Rattle.tiles.proofs.written_laws.texts_are_loaded.Goals as goal

pub returns : goal.returns
returns c = law
