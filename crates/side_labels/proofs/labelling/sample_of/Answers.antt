use Rattle.noding.specs.Nodings.{piece_of}
use Rattle.side_labels.proofs.SampleLabels.{same_sample}
use Rattle.side_labels.proofs.labelling.sample_of.Goals as goal

pub returns-clause-same : goal.returns-clause-same
returns-clause-same c = same_sample c.mediant.result (piece_of c.args.piece.now) c.mediant.ensures.exact
