-- Laws of what a matrix shows: what is there may be shown, and what covers all edges and positions shows all.
use Rattle.std.specs.Prelude.{◌≡◌, ◌≢◌, true, All, Contains}
use Rattle.geometry_model.specs.Points.{Position, Point, IsPoint}
use Rattle.geometry_model.specs.Geometries.{Edge, Geometry, edges, listed}
use Rattle.geometry_model.specs.Sides.{on}
use Rattle.geometry_model.specs.Locations.{locate}
use Rattle.geometry_model.specs.Dimensions.{Matrix, transposed}
use Rattle.geometry_model.specs.Labels.{below, above, edges_of_both, labelled_matrix}
use Rattle.geometry_model.specs.declared.point_sets.Location.{Location}
use Rattle.geometry_model.specs.declared.point_sets.Location.TheVariants.{Exterior}
use Rattle.geometry_model.specs.declared.point_sets.Dimension.{Dimension}
use Rattle.geometry_model.specs.declared.point_sets.Dimension.TheVariants.{Zero, One, Two}
use Rattle.geometry_laws.specs.PieceLaws.{HasClosedRings}
use Rattle.matrix_laws.specs.Cells.{Shows, raised, IsPartOf, IsSound, IsNoCut, Covers, CoversPosition}

-- the two parts in which a point lies share at least a point (06-103r4, 6.1.15.2)
abbrev pub PointIsThere : Type 0
PointIsThere = (a b : Geometry) → HasClosedRings a → HasClosedRings b → (x : Point) → IsPoint x → Shows (labelled_matrix a b) (locate a x) (locate b x) Zero

-- the two parts in which a point of an edge lies share at least a stretch, if it isn't a cut (06-103r4, 6.1.15.2)
abbrev pub PieceIsThere : Type 0
PieceIsThere = (a b : Geometry) → HasClosedRings a → HasClosedRings b → (e : Edge) → Contains (edges_of_both a b) e → (x : Point) → IsPoint x → on e x ≡ true → IsNoCut a b x → Shows (labelled_matrix a b) (locate a x) (locate b x) One

-- and if the edge isn't vertical, the two parts just below the point share an area, and so do those just above (06-103r4, 6.1.15.2)
abbrev pub SidesAreThere : Type 0
SidesAreThere = (a b : Geometry) → HasClosedRings a → HasClosedRings b → (e : Edge) → Contains (edges_of_both a b) e → e.start.x ≢ e.end.x → (x : Point) → IsPoint x → on e x ≡ true → IsNoCut a b x
    → Shows (labelled_matrix a b) (below a x) (below b x) Two × Shows (labelled_matrix a b) (above a x) (above b x) Two

-- a matrix that covers all edges and listed positions of both, and shows that the exteriors share an area, shows all that is there: if it also shows nothing else, it is the label matrix
abbrev pub CoveringIsWhole : Type 0
CoveringIsWhole = (a b : Geometry) → HasClosedRings a → HasClosedRings b → (m : Matrix) → All (Covers a b m) (edges a) → All (Covers a b m) (edges b) → All (CoversPosition a b m) (listed a) → All (CoversPosition a b m) (listed b)
    → Shows m Exterior Exterior Two → IsSound a b m → m ≡ labelled_matrix a b

-- what is shown stays shown where a matrix grows
abbrev pub GrowingKeeps : Type 0
GrowingKeeps = (a b : Geometry) (m n : Matrix) → IsPartOf m n → (e : Edge) → Covers a b m e → Covers a b n e

-- a raised matrix has grown, shows what it was raised to, and is sound where that was there
abbrev pub RaisedGrows : Type 0
RaisedGrows = (m : Matrix) (l k : Location) (d : Dimension) → IsPartOf m (raised m l k d) × Shows (raised m l k d) l k d × ((n : Matrix) → IsPartOf m n → Shows n l k d → IsPartOf (raised m l k d) n)

-- being part of a matrix is reflexive and transitive
abbrev pub PartsAreOrdered : Type 0
PartsAreOrdered = ((m : Matrix) → IsPartOf m m) × ((m n o : Matrix) → IsPartOf m n → IsPartOf n o → IsPartOf m o)

-- of the geometries in the other order, the transposed matrix covers the same and shows nothing else
abbrev pub CoversTurned : Type 0
CoversTurned = (a b : Geometry) (m : Matrix) → ((e : Edge) → Covers a b m e → Covers b a (transposed m) e) × ((p : Position) → CoversPosition a b m p → CoversPosition b a (transposed m) p) × (IsSound a b m → IsSound b a (transposed m))
