use Rattle.tiles.proofs.StretchTexts.{stretch_texts_are_loaded as law}
use Rattle.tiles.proofs.written_laws.stretch_texts_are_loaded.Goals as goal

pub returns : goal.returns
returns c = law
