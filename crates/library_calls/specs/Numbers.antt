-- Dimensions and locations as numbers.
use Rattle.std.specs.Prelude.{ℕ}
use Rattle.geometry_model.specs.declared.point_sets.Location.{Location}
use Rattle.geometry_model.specs.declared.point_sets.Location.TheVariants.{Interior, Boundary, Exterior}
use Rattle.geometry_model.specs.declared.shapes.Kind.{Kind}
use Rattle.geometry_model.specs.declared.shapes.Kind.TheVariants as kinds

-- the dimension of geometries of a kind (06-103r4, 6.1.2.2: Dimension)
abbrev pub dimension_of_kind : Kind → ℕ
dimension_of_kind kinds.Point = 0
dimension_of_kind kinds.Line = 1
dimension_of_kind kinds.Area = 2

-- the number of a location, in the order of the matrix (06-103r4, 6.1.15.2)
abbrev pub location_number : Location → ℕ
location_number Interior = 0
location_number Boundary = 1
location_number Exterior = 2
