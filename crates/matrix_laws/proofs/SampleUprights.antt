-- No vertical edge goes through the sample of a piece that isn't vertical.
use Rattle.std.proofs.Common.{◌≡◌, false, ◌++◌}
use Rattle.geometry_model.specs.Points.{Position}
use Rattle.geometry_model.specs.Geometries.{Edge, Geometry, edges, listed}
use Rattle.geometry_model.specs.Locations.{is_at}
use Rattle.geometry_model.specs.Labels.{is_upright, edges_of_both}
use Rattle.geometry_model.specs.Pieces.{Piece, sample}
use Rattle.geometry_laws.specs.PieceLaws.{IsPieceOf}
use Rattle.geometry_laws.specs.CoverLaws.{MissesUprights, IsNotUprightAt}
use Rattle.geometry_laws.proofs.Each.{Among, each_of, among_left, among_right}
use Rattle.geometry_laws.proofs.Cuts.{Ends, piece_ends}
use Rattle.geometry_laws.proofs.WithinPiece.{no_position_within}
use Rattle.geometry_laws.proofs.CoverTheorems.{all_from_each}
use Rattle.matrix_laws.proofs.Pieces.{not_upright_within, sample_inside}

pub sample_misses_uprights : (a b : Geometry) (c : Piece) → IsPieceOf a b c → is_upright c ≡ false → MissesUprights a (sample c) × MissesUprights b (sample c)
sample_misses_uprights a b c h f = (
  record {
    edges = all_from_each (IsNotUprightAt (sample c)) (edges a) (each_of (IsNotUprightAt (sample c)) (edges a) (λ e m. not_upright e (among_left e (edges a) (edges b) m)));
    positions = all_from_each (λ p. is_at (sample c) p ≡ false) (listed a) (each_of (λ p. is_at (sample c) p ≡ false) (listed a) (λ p m. away p (among_left p (listed a) (listed b) m)));
  },
  record {
    edges = all_from_each (IsNotUprightAt (sample c)) (edges b) (each_of (IsNotUprightAt (sample c)) (edges b) (λ e m. not_upright e (among_right e (edges a) (edges b) m)));
    positions = all_from_each (λ p. is_at (sample c) p ≡ false) (listed b) (each_of (λ p. is_at (sample c) p ≡ false) (listed b) (λ p m. away p (among_right p (listed a) (listed b) m)));
  },
)
  where
    ends : Ends c
    ends = piece_ends (edges_of_both a b) (listed a ++ listed b) c h

    not_upright : (e : Edge) → Among e (edges_of_both a b) → IsNotUprightAt (sample c) e
    not_upright e m = not_upright_within (edges_of_both a b) (listed a ++ listed b) c h ends f (sample c) (sample_inside (edges_of_both a b) (listed a ++ listed b) c h ends) e m

    away : (p : Position) → Among p (listed a ++ listed b) → is_at (sample c) p ≡ false
    away p m = no_position_within (edges_of_both a b) (listed a ++ listed b) c h (sample c) (sample_inside (edges_of_both a b) (listed a ++ listed b) c h ends) p m
