-- Walks through a list of boxes, from the last one to the first.
use Rattle.std.specs.Prelude.{◌≡◌, ℕ, ◌<◌, List, ◌++◌, drop}
use Rattle.geometry_model.specs.Points.{Point}
use Rattle.geometry_model.specs.Geometries.{Edge}
use Rattle.edge_boxes.specs.EdgeCrossings.{AreCrossings}
use Rattle.edge_boxes.specs.BoxLists.{covered}
use Rattle.edge_boxes.specs.declared.boxes.EdgeBox.{EdgeBox}
use Rattle.edge_boxes.specs.declared.point_crossings.Crossings.{Crossings}

-- a step to an earlier place returns how the point lies relative to the edges between
pub record IsStep (boxes : List EdgeBox) (edges : List Edge) (p : Point) (place next : ℕ) (c : Crossings) : Type 0 where
  pub earlier : next < place
  pub own : List Edge
  pub split : drop (covered boxes next) edges ≡ own ++ drop (covered boxes place) edges
  pub said : AreCrossings c own p
