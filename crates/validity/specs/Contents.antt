-- What the type `Valid` keeps of a geometry, for a POINT and for other types.
use Rattle.std.specs.Prelude.{◌≡◌}
use Rattle.geometry_model.specs.Geometries.{Geometry, type_of}
use Rattle.geometry_model.specs.declared.shapes.GeometryType.TheVariants as types
use Rattle.validity.specs.ValidGeometries.{IsValidWith, AreSearched}
use Rattle.validity.specs.declared.valid_geometry.Content.{Content}
use Rattle.validity.specs.declared.valid_geometry.Content.TheVariants as content

-- the geometry that a content is of (06-103r4, 6.1.4 to 6.1.14)
abbrev pub content_geometry : Content → Geometry
content_geometry (content.Point g boxes) = g
content_geometry (content.Larger searched) = searched.value.outline

-- the geometry has no fault; types other than POINT keep the positions that are searched beside it (06-103r4, 6.1.4, 6.1.7 and 6.1.11)
abbrev pub IsKeptIn : Content → Type 0
IsKeptIn (content.Point g boxes) = (type_of g ≡ types.Point) × IsValidWith g boxes
IsKeptIn (content.Larger searched) = IsValidWith searched.value.outline searched.value.boxes × AreSearched searched.value.positions.items searched.value.outline
