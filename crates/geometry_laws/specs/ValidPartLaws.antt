-- Laws of the parts of valid geometries, in the words of the standard.
use Rattle.std.specs.Prelude.{◌≡◌, ◌≢◌, ◌↔◌, ℕ, ◌<◌, ◌≤◌, true, false, List, length, Some, None, slice_get, Contains}
use Rattle.geometry_model.specs.Points.{Position}
use Rattle.geometry_model.specs.Geometries.{Geometry, is_empty}
use Rattle.geometry_model.specs.Validity.{IsValid, IsNotClosed, IsNotSimple, RingsShare, inside, ElementsShare, inside_element}
use Rattle.geometry_model.specs.Envelopes.{envelope}

-- rings that make a polygon: each closed and simple, of four positions or more, no two with a common point, the holes inside the outer ring and none inside another (06-103r4, 6.1.11.1; that rings don't touch is this project's choice)
pub record MakePolygon (rings : List (List Position)) : Type 0 where
  pub long : (ring : List Position) → Contains rings ring → 4 ≤ length ring
  pub closed : (ring : List Position) → Contains rings ring → IsNotClosed ring → ⊥
  pub simple : (ring : List Position) → Contains rings ring → IsNotSimple ring → ⊥
  pub apart : (i j : ℕ) (r s : List Position) → i ≢ j → slice_get rings i ≡ Some r → slice_get rings j ≡ Some s → RingsShare r s → ⊥
  pub holes_inside : (i : ℕ) (outer hole : List Position) → 0 < i → slice_get rings 0 ≡ Some outer → slice_get rings i ≡ Some hole → inside outer hole ≡ true
  pub not_nested : (i j : ℕ) (r s : List Position) → 0 < i → 0 < j → i ≢ j → slice_get rings i ≡ Some r → slice_get rings j ≡ Some s → inside r s ≡ false

-- polygons of which no two share a point of their rings, and none is inside another (06-103r4, 6.1.14: their interiors don't intersect; that they don't touch is this project's choice)
pub record LieApart (polygons : List (List (List Position))) : Type 0 where
  pub apart : (i j : ℕ) (d e : List (List Position)) → i ≢ j → slice_get polygons i ≡ Some d → slice_get polygons j ≡ Some e → ElementsShare d e → ⊥
  pub outside : (i j : ℕ) (d e : List (List Position)) → i ≢ j → slice_get polygons i ≡ Some d → slice_get polygons j ≡ Some e → inside_element e d ≡ false

-- a polygon is valid exactly where its rings make one (06-103r4, 6.1.11.1)
abbrev pub PolygonIsValid : Type 0
PolygonIsValid = (rings : List (List Position)) → IsValid (Geometry.Polygon rings) ↔ MakePolygon rings

-- a MultiPolygon is valid exactly where each of its polygons is valid, and they lie apart (06-103r4, 6.1.14)
abbrev pub MultiPolygonIsValid : Type 0
MultiPolygonIsValid = (polygons : List (List (List Position))) → IsValid (Geometry.MultiPolygon polygons)
    ↔ (((rings : List (List Position)) → Contains polygons rings → IsValid (Geometry.Polygon rings)) × LieApart polygons)

-- a LineString is valid exactly if its number of positions isn't 1 (06-103r4, 6.1.7)
abbrev pub LineStringIsValid : Type 0
LineStringIsValid = (line : List Position) → IsValid (Geometry.LineString line) ↔ (length line ≢ 1)

-- a MultiLineString is valid exactly where each element has two positions or more (06-103r4, 6.1.9)
abbrev pub MultiLineStringIsValid : Type 0
MultiLineStringIsValid = (lines : List (List Position)) → IsValid (Geometry.MultiLineString lines) ↔ ((line : List Position) → Contains lines line → 2 ≤ length line)

-- of a valid geometry the envelope is absent exactly where it is empty (06-103r4, 6.1.2.2: Envelope)
abbrev pub EnvelopeIsAbsentWhereEmpty : Type 0
EnvelopeIsAbsentWhereEmpty = (g : Geometry) → IsValid g → (envelope g ≡ None) ↔ (is_empty g ≡ true)
