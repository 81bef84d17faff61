use Rattle.std.proofs.Common.{◌∙◌, sym, ap}
use Rattle.std.specs.Prelude.{is_some}
use Rattle.witnesses.proofs.WitnessFacts.{piece_first, piece_found, node_first, node_found, nothing_first, nothing_found}
use Rattle.witnesses.proofs.finding.find_witness.Goals as goal

pub returns-in-Some-find_pair-clause-is : goal.returns-in-Some-find_pair-clause-is
returns-in-Some-find_pair-clause-is c = piece_found c.args.first.now c.args.second.now c.args.noded.now.nodes
    c.args.noded.now.pieces c.args.found.now c.pieces-in-Some-find_pair.result.now c.index-pieces-place.result
    c.in-Some-find_pair.place c.args.l c.args.k c.pieces.result.now
    c.requires c.pieces-in-Some-find_pair.ensures c.pieces.ensures (sym c.find_pair.ensures ∙ c.in-Some-find_pair.is) c.index-pieces-place.is (sym c.find_face.ensures.exact ∙ ap is_some c.in_default.is)

pub returns-in-Some-find_pair-2-clause-is : goal.returns-in-Some-find_pair-2-clause-is
returns-in-Some-find_pair-2-clause-is c = node_found c.args.first.now c.args.second.now c.args.noded.now.nodes
    c.nodes-in-Some-find_pair-2.result.now c.args.noded.now.pieces c.args.found.now c.index-nodes-place.result
    c.in-Some-find_pair-2.place c.args.l c.args.k c.pieces.result.now c.nodes.result.now
    c.requires c.nodes-in-Some-find_pair-2.ensures c.pieces.ensures c.nodes.ensures (sym c.find_pair.ensures ∙ c.in_default-find_pair.is) (sym c.find_pair-2.ensures ∙ c.in-Some-find_pair-2.is) c.index-nodes-place.is (sym c.find_face.ensures.exact ∙ ap is_some c.in_default.is)

pub returns-in-None-clause-is : goal.returns-in-None-clause-is
returns-in-None-clause-is c = nothing_found c.args.first.now c.args.second.now c.args.found.now c.args.l c.args.k
    c.pieces.result.now c.nodes.result.now c.pieces.ensures c.nodes.ensures (sym c.find_pair.ensures ∙ c.in_default-find_pair.is)
    (sym c.find_pair-2.ensures ∙ c.in-None.is)
    (sym c.find_face.ensures.exact ∙ ap is_some c.in_default.is)

pub returns-in-Some-find_pair-clause-first : goal.returns-in-Some-find_pair-clause-first
returns-in-Some-find_pair-clause-first c =
    piece_first c.args.first.now c.args.second.now c.args.noded.now.nodes c.args.noded.now.pieces c.args.found.now
    c.pieces-in-Some-find_pair.result.now
    c.index-pieces-place.result c.in-Some-find_pair.place c.args.l c.args.k c.pieces.result.now
    c.requires c.pieces-in-Some-find_pair.ensures c.pieces.ensures (sym c.find_pair.ensures ∙ c.in-Some-find_pair.is)
    c.index-pieces-place.is c.in_default.ensures.none

pub returns-in-Some-find_pair-2-clause-first : goal.returns-in-Some-find_pair-2-clause-first
returns-in-Some-find_pair-2-clause-first c =
    node_first c.args.first.now c.args.second.now c.args.noded.now.nodes c.nodes-in-Some-find_pair-2.result.now
    c.args.noded.now.pieces c.args.found.now
    c.index-nodes-place.result c.in-Some-find_pair-2.place c.args.l c.args.k c.pieces.result.now c.nodes.result.now
    c.requires c.nodes-in-Some-find_pair-2.ensures c.pieces.ensures c.nodes.ensures
    (sym c.find_pair.ensures ∙ c.in_default-find_pair.is)
    (sym c.find_pair-2.ensures ∙ c.in-Some-find_pair-2.is) c.index-nodes-place.is c.in_default.ensures.none

pub returns-in-None-clause-first : goal.returns-in-None-clause-first
returns-in-None-clause-first c =
    nothing_first c.args.first.now c.args.second.now c.args.noded.now.nodes c.args.noded.now.pieces c.args.found.now c.args.l
    c.args.k c.pieces.result.now
    c.nodes.result.now c.requires c.pieces.ensures c.nodes.ensures (sym c.find_pair.ensures ∙ c.in_default-find_pair.is)
    (sym c.find_pair-2.ensures ∙ c.in-None.is) c.in_default.ensures.none
