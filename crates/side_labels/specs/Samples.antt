-- Pieces that have a sample.
use Rattle.std.specs.Prelude.{pos, ◌≤ℤ◌}
use Rattle.geometry_model.specs.Points.{IsPoint}
use Rattle.geometry_model.specs.Pieces.{Piece}
use Rattle.fraction.specs.Ranges.{meeting_limit}

-- both ends are points whose denominators are within the limit of points at which segments meet
pub record HasSample (c : Piece) : Type 0 where
  pub lesser : IsPoint c.lesser
  pub greater : IsPoint c.greater
  pub lesser_limit : c.lesser.W ≤ℤ pos meeting_limit
  pub greater_limit : c.greater.W ≤ℤ pos meeting_limit
