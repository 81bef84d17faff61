use Rattle.std.proofs.Common.{sym, ◌∙◌}
use Rattle.matrix_laws.proofs.Closing.{valid_rings_are_closed}
use Rattle.witnesses.proofs.finding.find_witnesses.Goals as goal

pub of_labels-requires-clause-labelled : goal.of_labels-requires-clause-labelled
of_labels-requires-clause-labelled c =
    let noded = c.in_ok-noded.ensures.noded in
    record {
      first_closed = valid_rings_are_closed c.args.first.now c.in_ok-noded.ensures.first_valid;
      second_closed = valid_rings_are_closed c.args.second.now c.in_ok-noded.ensures.second_valid;
      are_cuts = noded.are_cuts;
      are_pieces = noded.are_pieces;
      triples = noded.triples;
      exact_nodes = noded.exact_nodes;
      exact_pieces = noded.exact_pieces;
      labels = c.in_ok-found.ensures ∙ sym noded.labels;
      exact = c.in_ok-found.ensures;
    }
