use Rattle.tiles.proofs.StretchLemmas.{stretches_are_whole}
use Rattle.tiles.proofs.written_laws.stretches_are_whole.Goals as goal

pub returns : goal.returns
returns c = stretches_are_whole
