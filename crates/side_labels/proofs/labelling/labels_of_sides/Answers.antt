use Rattle.std.proofs.Common.{◌∙◌, sym, ap, ap₂, ◌++◌, ◌∷◌, [], Option}
use Rattle.std.proofs.lemmas.List.{map_more}
use Rattle.geometry_model.specs.Labels.{SideLabels, side_labels}
use Rattle.noding.specs.Nodings.{piece_of}
use Rattle.side_labels.proofs.labelling.labels_of_sides.Goals as goal

pub loop-piece-preserved : goal.loop-piece-preserved
loop-piece-preserved c = c.in_ok-push.ensures.items
    ∙ ap₂ (λ xs (y : Option SideLabels). xs ++ y ∷ []) c.loop-piece.invariant (c.side_labels.ensures ∙ ap (λ p. side_labels c.args.first.now c.args.second.now (piece_of p)) c.piece-item.is)
    ∙ sym (map_more (λ p. side_labels c.args.first.now c.args.second.now (piece_of p)) c.args.pieces.now c.loop-piece.piece-index c.piece-item.result c.loop-piece-test.true)
