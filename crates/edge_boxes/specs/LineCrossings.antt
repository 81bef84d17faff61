-- How a point lies relative to the edges of lines or rings.
use Rattle.std.specs.Prelude.{◌≡◌, List}
use Rattle.geometry_model.specs.Points.{Position, Point}
use Rattle.geometry_model.specs.Geometries.{edges_of_lines}
use Rattle.geometry_model.specs.Locations.{on_some}
use Rattle.geometry_model.specs.Crossings.{odd_above, odd_at_or_above}
use Rattle.edge_boxes.specs.EdgeCrossings.{on_any, is_odd_above, is_odd_at_or_above}

-- over the edges of lines or rings, these tests are those by which points are located (06-103r4, 6.1.7 and 6.1.11.1)
abbrev pub CrossingsOfLines : Type 0
CrossingsOfLines = (ls : List (List Position)) (p : Point) → (on_any (edges_of_lines ls) p ≡ on_some ls p) × (is_odd_above (edges_of_lines ls) p ≡ odd_above ls p)
    × (is_odd_at_or_above (edges_of_lines ls) p ≡ odd_at_or_above ls p)
