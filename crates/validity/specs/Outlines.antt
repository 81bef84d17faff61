-- A geometry with its edges, line by line and polygon by polygon.
use Rattle.std.specs.Prelude.{◌≡◌, ◌<◌, ◌≤◌, ℕ, Bool, false, ◌==◌, nat_lt, List, length, map, flat_map, Some, slice_get}
use Rattle.geometry_model.specs.Geometries.{Geometry, Edge, lines, elements, edges_of_line, edges_of_lines}
use Rattle.geometry_model.specs.Validity.{Element, numbered_elements}
use Rattle.geometry_model.specs.FirstFaults.{rings_end}
use Rattle.geometry_model.specs.declared.shapes.GeometryType.{GeometryType}
use Rattle.geometry_model.specs.declared.shapes.GeometryType.TheVariants as types
use Rattle.edge_boxes.specs.BoxLists.{BoxesOf}
use Rattle.edge_boxes.specs.declared.boxes.EdgeBoxes.{EdgeBoxes}
use Rattle.wkt.specs.Cuts.{cut_at, AreEnds}

-- the runs are the edges of the lines, and the ends are the places where those and the rings of each polygon end (06-103r4, 6.1.7 to 6.1.14)
pub record IsOutline (g : Geometry) (runs : List (List Edge)) (element_ends ring_ends : List ℕ) : Type 0 where
  pub by_line : runs ≡ map edges_of_line (lines g)
  pub elements_end : 0 < length element_ends → AreEnds 0 element_ends (length (flat_map (λ run. run) runs))
  pub by_element : cut_at 0 element_ends (flat_map (λ run. run) runs) ≡ map edges_of_lines (elements g)
  pub rings_end : ring_ends ≡ map rings_end (numbered_elements g)

-- the rings of one polygon have the numbers from the first up to the end (06-103r4, 6.1.11.1)
pub record AreRings (g : Geometry) (first end : ℕ) : Type 0 where
  pub place : ℕ
  pub element : Element
  pub numbered : slice_get (numbered_elements g) place ≡ Some element
  pub starts : element.first ≡ first
  pub ends : rings_end element ≡ end

-- the rings of the polygon with this number have these numbers
abbrev pub AreRingsOf : Geometry → ℕ → ℕ → ℕ → Type 0
AreRingsOf g element first end = (e : Element) × (slice_get (numbered_elements g) element ≡ Some e) × (e.first ≡ first) × (rings_end e ≡ end)

-- this number of positions is too few for a part of a geometry of this type (06-103r4, 6.1.7 and 6.1.11.1)
abbrev pub too_few : GeometryType → ℕ → Bool
too_few types.Point count = false
too_few types.MultiPoint count = false
too_few types.LineString count = count == 1
too_few types.MultiLineString count = nat_lt count 2
too_few types.Polygon count = nat_lt count 4
too_few types.MultiPolygon count = nat_lt count 4

-- the number is a ring's of a polygon whose rings end there (06-103r4, 6.1.11.1)
pub record IsRing (g : Geometry) (ring end : ℕ) : Type 0 where
  pub first : ℕ
  pub are : AreRings g first end
  pub from : first ≤ ring
  pub before : ring < end

-- the number is a hole's of a polygon whose rings end there (06-103r4, 6.1.11.1: interior boundary)
pub record IsHole (g : Geometry) (hole end : ℕ) : Type 0 where
  pub first : ℕ
  pub are : AreRings g first end
  pub after : first < hole
  pub before : hole < end

-- the boxes are those of the edges of the line or ring with this number (06-103r4, 6.1.7)
abbrev pub AreLineBoxes : EdgeBoxes → Geometry → ℕ → Type 0
AreLineBoxes boxes g line = (run : List Edge) → slice_get (map edges_of_line (lines g)) line ≡ Some run → BoxesOf boxes run

-- the boxes are those of the edges of the polygon with this number (06-103r4, 6.1.14)
abbrev pub AreElementBoxes : EdgeBoxes → Geometry → ℕ → Type 0
AreElementBoxes boxes g element = (run : List Edge) → slice_get (map edges_of_lines (elements g)) element ≡ Some run → BoxesOf boxes run
