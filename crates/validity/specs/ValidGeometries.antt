-- What is kept of a valid geometry.
use Rattle.std.specs.Prelude.{◌≡◌, ◌||◌, List}
use Rattle.std.specs.List.{list_any}
use Rattle.std.specs.List.Sorted.{IsStrictlySortedBy}
use Rattle.geometry_model.specs.Geometries.{Geometry, edges, listed}
use Rattle.geometry_model.specs.Points.{Position, Point, IsPoint}
use Rattle.geometry_model.specs.Locations.{is_at, is_odd_end}
use Rattle.geometry_model.specs.Validity.{IsValid}
use Rattle.fraction.specs.Orders.{position_order}
use Rattle.edge_boxes.specs.BoxLists.{BoxesOf}
use Rattle.edge_boxes.specs.declared.boxes.EdgeBoxes.{EdgeBoxes}
pub use Rattle.validity.specs.Runs.{HasLength}
use Rattle.validity.specs.OddEnds.{ended_lines}

-- the geometry has no fault, and the boxes are those of its edges (06-103r4, 6.1.7 and 6.1.11)
pub record IsValidWith (g : Geometry) (boxes : EdgeBoxes) : Type 0 where
  pub valid : IsValid g
  pub over_edges : BoxesOf boxes (edges g)

-- the positions ascend, each once, and a point is at one of them exactly if it is at a listed position or at an odd end: points have no ends, and lines list no positions (06-103r4, 6.1.4, 6.1.5 and 6.1.8.1)
pub record AreSearched (positions : List Position) (g : Geometry) : Type 0 where
  pub ascend : IsStrictlySortedBy position_order positions
  pub exact : (p : Point) → IsPoint p → list_any (is_at p) positions ≡ (list_any (is_at p) (listed g) || is_odd_end (ended_lines g) p)

-- each point that is at a position of one list is at one of the other
abbrev pub HoldAlike : List Position → List Position → Type 0
HoldAlike positions given = (p : Point) → list_any (is_at p) positions ≡ list_any (is_at p) given
