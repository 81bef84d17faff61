use Rattle.std.proofs.Common.{◌++◌}
use Rattle.geometry_model.specs.Points.{IsPoint}
use Rattle.geometry_model.specs.Geometries.{Geometry, listed}
use Rattle.geometry_model.specs.Pieces.{Piece, sample}
use Rattle.geometry_model.specs.Labels.{edges_of_both}
use Rattle.geometry_laws.specs.PieceLaws.{IsPieceOf}
use Rattle.geometry_laws.proofs.PointOrder.{mediant_is_point}
use Rattle.geometry_laws.proofs.Cuts.{Ends, piece_ends}
use Rattle.noding.specs.Nodings.{piece_of}
use Rattle.side_labels.proofs.SampleLabels.{same_sample}
use Rattle.witnesses.proofs.WitnessFacts.{sample_misses, beside_of, seen_from}
use Rattle.witnesses.proofs.finding.beside.Goals as goal

-- the sample of a piece is a point
is_point : (a b : Geometry) (c : Piece) → IsPieceOf a b c → IsPoint (sample c)
is_point a b c h = let d : Ends c = piece_ends (edges_of_both a b) (listed a ++ listed b) c h in mediant_is_point c.lesser c.greater d.lesser d.greater

pub face_point-requires-clause-first : goal.face_point-requires-clause-first
face_point-requires-clause-first c = (sample_misses c.args.first.now c.args.second.now (piece_of c.args.piece.now) c.mediant-sample.result c.requires.piece c.requires.not_upright (is_point c.args.first.now c.args.second.now (piece_of c.args.piece.now) c.requires.piece)
    c.mediant-sample.ensures.kept.range.positive (same_sample c.mediant-sample.result (piece_of c.args.piece.now) c.mediant-sample.ensures.exact)).0

pub face_point-requires-clause-second : goal.face_point-requires-clause-second
face_point-requires-clause-second c = (sample_misses c.args.first.now c.args.second.now (piece_of c.args.piece.now) c.mediant-sample.result c.requires.piece c.requires.not_upright (is_point c.args.first.now c.args.second.now (piece_of c.args.piece.now) c.requires.piece)
    c.mediant-sample.ensures.kept.range.positive (same_sample c.mediant-sample.result (piece_of c.args.piece.now) c.mediant-sample.ensures.exact)).1

pub returns-clause-beside : goal.returns-clause-beside
returns-clause-beside c = beside_of c.args.first.now c.args.second.now (piece_of c.args.piece.now) c.mediant-sample.result
    c.face_point.result c.args.side (is_point c.args.first.now c.args.second.now (piece_of c.args.piece.now) c.requires.piece)
    c.mediant-sample.ensures.kept.range.positive (same_sample c.mediant-sample.result (piece_of c.args.piece.now) c.mediant-sample.ensures.exact) c.face_point.ensures.above c.face_point.ensures.below

pub returns-clause-seen : goal.returns-clause-seen
returns-clause-seen c = (
  c.mediant-sample.result,
  same_sample c.mediant-sample.result (piece_of c.args.piece.now) c.mediant-sample.ensures.exact,
  seen_from c.args.first.now c.args.second.now c.args.side c.mediant-sample.result c.face_point.result
      c.face_point.ensures.above c.face_point.ensures.below,
)
