use Rattle.matrix_laws.proofs.SampleUprights.{sample_misses_uprights}
use Rattle.matrix_laws.proofs.witness_laws.sample_misses_uprights.Goals as goal

pub returns : goal.returns
returns _ = sample_misses_uprights
