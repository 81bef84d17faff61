use Rattle.std.proofs.Common.{◌≡◌, map, take}
use Rattle.geometry_model.specs.Labels.{label}
use Rattle.geometry_model.specs.Pieces.{sample}
use Rattle.noding.specs.Nodings.{piece_of}
use Rattle.side_labels.proofs.labelling.labels_of_pieces.Given as goal

-- the pieces before this one
abbrev pub invariant-loop-piece : goal.invariant-loop-piece
invariant-loop-piece l = l.labels.items ≡ map (λ c. label l.first l.second (sample (piece_of c))) (take l.piece-index l.pieces)
