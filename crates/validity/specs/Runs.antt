-- What is true of each edge that is kept.
use Rattle.std.specs.Prelude.{◌≢◌}
use Rattle.geometry_model.specs.Geometries.{Edge}

-- the ends of an edge differ (06-103r4, 6.1.7: Line)
abbrev pub HasLength : Edge → Type 0
HasLength edge = edge.start ≢ edge.end
