use Rattle.tiles.proofs.TiledAnswers.{tiled_counts_are_meant as law}
use Rattle.tiles.proofs.written_laws.tiled_counts_are_meant.Goals as goal

pub returns : goal.returns
returns c = law
