use Rattle.std.proofs.Common.{◌++◌, ◌∙◌}
use Rattle.geometry_model.specs.Geometries.{listed}
use Rattle.geometry_model.specs.Labels.{edges_of_both}
use Rattle.side_labels.proofs.SampleLabels.{have_samples, labels_are}
use Rattle.side_labels.proofs.labelling.labels_of.Goals as goal

pub labels_of_pieces-requires : goal.labels_of_pieces-requires
labels_of_pieces-requires c = have_samples (edges_of_both c.args.first.now c.args.second.now) (listed c.args.first.now ++ listed c.args.second.now) c.pieces.result.now c.args.noded.now.pieces c.pieces.ensures c.requires.are_pieces c.requires.triples

pub labels_of_sides-requires : goal.labels_of_sides-requires
labels_of_sides-requires c = have_samples (edges_of_both c.args.first.now c.args.second.now) (listed c.args.first.now ++ listed c.args.second.now) c.pieces-2.result.now c.args.noded.now.pieces c.pieces-2.ensures c.requires.are_pieces c.requires.triples

pub returns : goal.returns
returns c = c.of_lists.ensures ∙ labels_are c.args.first.now c.args.second.now c.args.noded.now.nodes c.nodes.result.now c.args.noded.now.pieces c.pieces.result.now c.pieces-2.result.now _ _ _ c.requires
    c.nodes.ensures c.pieces.ensures c.pieces-2.ensures c.in_ok-labels_of_points.ensures c.in_ok-labels_of_pieces.ensures c.in_ok-labels_of_sides.ensures
