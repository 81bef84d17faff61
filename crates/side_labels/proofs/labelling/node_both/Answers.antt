use Rattle.std.proofs.Common.{◌∙◌}
use Rattle.side_labels.proofs.SampleLabels.{noded_of}
use Rattle.side_labels.proofs.labelling.node_both.Goals as goal

pub returns-clause-noded : goal.returns-clause-noded
returns-clause-noded c = noded_of c.args.first.now c.args.second.now c.as_slice.result.now c.as_slice-2.result.now c.in_ok-noded.noded.nodes c.in_ok-noded.noded.pieces
    (c.as_slice.ensures.value ∙ c.in_ok-segments.ensures) (c.as_slice-2.ensures.value ∙ c.in_ok-listed.ensures.exact) c.in_ok-noded.ensures.exact_nodes c.in_ok-noded.ensures.exact_pieces
    c.in_ok-noded.ensures.nodes c.in_ok-noded.ensures.pieces c.in_ok-noded.ensures.end_triples
