-- The texts of functions of a geometry in an answer.
use Rattle.std.specs.Prelude.{ℕ, List, codes, cond}
use Rattle.std.specs.Fmt.{signed_decimal}
use Rattle.geometry_model.specs.Geometries.{Geometry, is_empty, kind}
use Rattle.table_model.specs.Truths.{dimension}

-- ST_Dimension (06-103r4, 6.1.2.2: Dimension)
abbrev pub dimension_text : Geometry → List ℕ
dimension_text g = signed_decimal (dimension (kind g))

-- ST_IsEmpty (06-103r4, 6.1.2.2: IsEmpty)
abbrev pub emptiness_text : Geometry → List ℕ
emptiness_text g = cond (is_empty g) (codes "1") (codes "0")
