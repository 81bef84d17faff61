use Rattle.std.proofs.Common.{◌∙◌}
use Rattle.noding.specs.Nodings.{piece_of}
use Rattle.side_labels.proofs.SampleLabels.{label_same}
use Rattle.side_labels.proofs.labelling.piece_label.Goals as goal

pub returns : goal.returns
returns c = c.label.ensures ∙ label_same c.args.first.now c.args.second.now c.sample_of.result (piece_of c.args.piece.now) c.requires c.sample_of.ensures.point c.sample_of.ensures.same
