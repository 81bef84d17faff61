-- How a point lies relative to the edges of a list.
use Rattle.std.specs.Prelude.{◌≡◌, Bool, ◌||◌, List, int_lt, count_by}
use Rattle.std.specs.List.{list_any}
use Rattle.geometry_model.specs.Points.{Point}
use Rattle.geometry_model.specs.Geometries.{Edge}
use Rattle.geometry_model.specs.Envelopes.{Envelope}
use Rattle.geometry_model.specs.Sides.{on}
use Rattle.geometry_model.specs.Crossings.{odd, strictly_above, at_or_above}
use Rattle.edge_boxes.specs.EdgeRuns.{SumsUp, SumsUpEnds}
use Rattle.edge_boxes.specs.Strips.{IsStripOf}
use Rattle.edge_boxes.specs.BoxCells.{IsCellOf}
use Rattle.edge_boxes.specs.declared.kept_runs.Ends.{Ends}
use Rattle.edge_boxes.specs.declared.kept_runs.Run.{Run}
use Rattle.edge_boxes.specs.declared.strips.Strip.{Strip}
use Rattle.edge_boxes.specs.declared.cells.Cell.{Cell}
use Rattle.edge_boxes.specs.declared.point_crossings.Crossings.{Crossings}

-- the point lies on one of the edges (06-103r4, 6.1.7)
abbrev pub on_any : List Edge → Point → Bool
on_any edges p = list_any (λ e. on e p) edges

-- an odd number of the edges lie strictly above the point (06-103r4, 6.1.11.1: inside)
abbrev pub is_odd_above : List Edge → Point → Bool
is_odd_above edges p = odd (count_by (λ e. strictly_above e p) edges)

-- an odd number of the edges lie above the point or go through it
abbrev pub is_odd_at_or_above : List Edge → Point → Bool
is_odd_at_or_above edges p = odd (count_by (λ e. at_or_above e p) edges)

-- the three answers are right for the point and these edges
pub record AreCrossings (c : Crossings) (edges : List Edge) (p : Point) : Type 0 where
  pub on : c.on ≡ on_any edges p
  pub above : c.odd_above ≡ is_odd_above edges p
  pub at_or_above : c.odd_at_or_above ≡ is_odd_at_or_above edges p

-- the bounds are entirely left or right of the point in the cell, or below it
abbrev pub lie_apart : Envelope → Cell → Bool
lie_apart b c = int_lt b.greatest_x c.ceiling_x || int_lt c.floor_x b.least_x || int_lt b.greatest_y c.ceiling_y

-- what a run says of a point in a cell is right, whatever the run's edges are
abbrev pub IsShown : Run → Cell → Crossings → Type 0
IsShown run cell c = (p : Point) (es : List Edge) → IsCellOf cell p → SumsUp run es → AreCrossings c es p

-- what a run's strip and ends say of a point in a cell is right, whatever the run's edges are
abbrev pub IsShownByStrip : Strip → Ends → Cell → Crossings → Type 0
IsShownByStrip strip ends cell c = (p : Point) (es : List Edge) → IsCellOf cell p → IsStripOf strip es → SumsUpEnds ends es → AreCrossings c es p
