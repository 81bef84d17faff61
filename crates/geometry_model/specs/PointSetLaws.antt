-- Laws of interior, boundary and exterior, each as one statement.
use Rattle.std.specs.Prelude.{◌≡◌, ◌↔◌}
use Rattle.geometry_model.specs.Points.{Point}
use Rattle.geometry_model.specs.Geometries.{Geometry}
use Rattle.geometry_model.specs.Locations.{locate, part}
use Rattle.geometry_model.specs.PointSets.{IsInterior, IsBoundary, IsExterior}
use Rattle.geometry_model.specs.declared.point_sets.Location.{Location}
use Rattle.geometry_model.specs.declared.point_sets.Location.TheVariants.{Interior, Boundary, Exterior}

-- `locate` returns Interior exactly at the points of the interior (06-103r4, 6.1.15.2)
abbrev pub LocatesInterior : Type 0
LocatesInterior = (g : Geometry) (p : Point) → (locate g p ≡ Interior) ↔ IsInterior g p

-- `locate` returns Boundary exactly at the points of the boundary (06-103r4, 6.1.15.2)
abbrev pub LocatesBoundary : Type 0
LocatesBoundary = (g : Geometry) (p : Point) → (locate g p ≡ Boundary) ↔ IsBoundary g p

-- `locate` returns Exterior exactly at the points of the exterior (06-103r4, 6.1.15.2)
abbrev pub LocatesExterior : Type 0
LocatesExterior = (g : Geometry) (p : Point) → (locate g p ≡ Exterior) ↔ IsExterior g p

-- each point is in exactly one of the three parts (06-103r4, 6.1.15.2)
abbrev pub PartsPlane : Type 0
PartsPlane = (g : Geometry) (p : Point) → (l : Location) × part g l p × ((k : Location) → part g k p → k ≡ l)
