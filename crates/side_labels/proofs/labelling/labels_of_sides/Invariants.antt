use Rattle.std.proofs.Common.{◌≡◌, map, take}
use Rattle.geometry_model.specs.Labels.{side_labels}
use Rattle.noding.specs.Nodings.{piece_of}
use Rattle.side_labels.proofs.labelling.labels_of_sides.Given as goal

-- the pieces before this one
abbrev pub invariant-loop-piece : goal.invariant-loop-piece
invariant-loop-piece l = l.labels.items ≡ map (λ c. side_labels l.first l.second (piece_of c)) (take l.piece-index l.pieces)
